use Rattle.std.proofs.Common.{◌≡◌, max, ap, sym, ◌∙◌, insert, arith}
use Rattle.std.proofs.lemmas.Grind.{common_steps}
use Rattle.wm_tree.proofs.Growing.{IsTree-grow, MayGrow, latest_told, path_in-grow, path_in-grow_new}
use Rattle.wm_tree.proofs.Placing.{newest_first-insert}
use Rattle.wm_tree.specs.Versions.{Grown, grow, newest_first, number_at, latest_in}
use Rattle.wm_tree.specs.declared.version.Version.{Version}
use Rattle.wm_tree.proofs.tree.Tree.add.Goals as goal

-- the version that is added
abbrev added : goal.After-unwrap → Version
added c = record { number = c.args.version; space = c.args.space; parent = c.args.parent }

now_is : (c : goal.After-unwrap) → newest_first c.self.inside.versions.items ≡ c.args.self.now.versions
now_is c = ap (λ (g : Grown). g.versions) c.self.view_is

made : (c : goal.After-unwrap) → newest_first c.insert.new.self.items ≡ grow (added c) (newest_first c.self.inside.versions.items)
made c =
    let placed : c.insert.new.self.items ≡ insert c.self.inside.versions.items c.place_of-place.result (added c) = grind (arith, common_steps, c.in_ok-reserve.ensures.items) in
    ap newest_first placed
    ∙ newest_first-insert c.self.inside.versions.items (added c) c.place_of-place.result
    (rw c.as_slice.ensures.value at c.place_of-place.ensures.before) (rw c.as_slice.ensures.value at c.place_of-place.ensures.behind)

may : (c : goal.After-unwrap) → MayGrow (added c) (newest_first c.self.inside.versions.items)
may c = record {
  named = c.requires.named;
  fresh = rw (now_is c) c.requires.fresh;
  older = c.requires.older;
  under = λ some. rw (now_is c) (c.requires.under some);
}

pub invariant_of-self-2 : goal.invariant_of-self-2
invariant_of-self-2 c = (
  rw (made c) (IsTree-grow (added c) (newest_first c.self.inside.versions.items) c.self.invariant.0 (may c)),
  λ s.
      c.in_ok-set_number.ensures.ok s
      ∙ latest_told (added c) (newest_first c.self.inside.versions.items) (λ m. number_at c.self.inside.latest.entries m) c.max-latest.result s c.self.invariant.0 c.self.invariant.1
      (c.max-latest.ensures ∙ ap (λ k. max k c.args.version) c.number_of.ensures)
      ∙ ap (λ l. latest_in l s) (sym (made c)),
)

pub returns-clause-ok : goal.returns-clause-ok
returns-clause-ok c =
    let versions = made c ∙ ap (grow (added c)) (now_is c) in
    let bases = ap (λ (g : Grown). g.bases) c.self.view_is in
    λ i. record { versions = versions i; bases = bases i }

pub returns-clause-path : goal.returns-clause-path
returns-clause-path c = rw (made c, ← now_is c) (path_in-grow_new (added c) (newest_first c.self.inside.versions.items) c.self.invariant.0 (may c))

pub returns-clause-paths : goal.returns-clause-paths
returns-clause-paths c = λ v other. rw (made c, ← now_is c) (path_in-grow (added c) (newest_first c.self.inside.versions.items) v c.self.invariant.0 (may c) other)
