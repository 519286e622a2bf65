use Rattle.std.proofs.Common.{◌≡◌, ◌+◌, ◌==◌, ℕ, nat_lt, true, is_some, refl, sym, ap, ◌∙◌}
use Rattle.std.specs.List.{list_all}
use Rattle.std.specs.Option.{option_copied}
use Rattle.wm_graph.specs.Parts.{parts_of, space_of}
use Rattle.wm_image.proofs.Coming.{space_after_is}
use Rattle.wm_ids.proofs.Lasts.{LastOf}
use Rattle.wm_index.proofs.Firsts.{some_found}
use Rattle.wm_index.proofs.After.{all_before, last_there}
use Rattle.wm_image.proofs.Spaced.{is_numbered, last_numbered}
use Rattle.wm_spec.specs.declared.record.space.Space.{Space}
use Rattle.wm_image.proofs.image.Image.next_space.Goals as goal

-- the last number is that of a workspace
last : (c : goal.After-number_after) → LastOf (is_numbered (parts_of c.args.self.now)) (option_copied c.last_key.result)
last c =
    last_numbered c.self.inside.kept c.self.inside.index c.self.invariant.0 c.args.self.now c.self.view_is (option_copied c.last_key.result) c.last_key.ensures.ordered c.last_key.ensures.last

-- all numbers are below it
above : (c : goal.After-number_after) → list_all (λ (r : Space). nat_lt r.number c.number_after.result) (parts_of c.args.self.now).spaces ≡ true
above c =
    ap (λ (n : ℕ). list_all (λ (r : Space). nat_lt r.number n) (parts_of c.args.self.now).spaces) c.number_after.ensures
    ∙ all_before (λ (r : Space). r.number) (parts_of c.args.self.now).spaces 0 (option_copied c.last_key.result) (last c)

-- the number before it is that of a workspace
there : (c : goal.After-number_after) → (n : ℕ) → c.number_after.result ≡ n + 1 → is_some (space_of (parts_of c.args.self.now).spaces n) ≡ true
there c = λ n is.
    sym (some_found (λ (r : Space). r.number == n) (parts_of c.args.self.now).spaces)
    ∙ last_there (is_numbered (parts_of c.args.self.now)) 0 (option_copied c.last_key.result) (last c) n refl (sym c.number_after.ensures ∙ is)

pub returns : goal.returns
returns c = space_after_is (parts_of c.args.self.now).spaces c.number_after.result (above c) (there c)
