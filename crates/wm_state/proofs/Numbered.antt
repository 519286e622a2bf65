-- No version has the number 0, and so it is read as one that holds nothing.
use Rattle.std.proofs.Common.{◌≡◌, ℕ, ◌==◌, nat_lt, Bool, true, false, not, if◌then◌else◌, List, [], ◌∷◌, Option, Some, None, refl, sym, arith}
use Rattle.std.proofs.lemmas.Bool.Decides.{nat_tests}
use Rattle.std.proofs.lemmas.Bool.{and_parts, not-true, true≢false}
use Rattle.std.specs.List.{list_all}
use Rattle.std.specs.Option.{option_map_or}
use Rattle.wm_graph.specs.Parts.{Parts, space_of, version_of}
use Rattle.wm_graph.specs.Rules.{keep_rules, is_version, stands_under}
use Rattle.wm_spec.specs.Lists.{Cell}
use Rattle.wm_spec.specs.declared.record.piece.PieceRecord.{PieceRecord}
use Rattle.wm_spec.specs.declared.record.space.Space.{Space}
use Rattle.wm_spec.specs.declared.record.version.Version.{Version}
use Rattle.wm_tree.specs.Versions.{grow}
use Rattle.wm_tree.specs.declared.version.Version.{Version as Node}
use Rattle.wm_state.specs.Standing.{newest_first, node_of, seen, seen_at}
use Rattle.wm_state.proofs.Apart.{ruled, ruled_versions}
use Rattle.wm_state.proofs.Tests.{all_if}

abbrev some_node : Node → Bool
some_node x = not (x.number == 0)

grown_some : (x : Node) (ns : List Node) → some_node x ≡ true → list_all some_node ns ≡ true → list_all some_node (grow x ns) ≡ true
grown_some x [] some rest = rw some refl
grown_some x (y ∷ ns) some rest = let h = and_parts (some_node y) (list_all some_node ns) rest in by_test (nat_lt y.number x.number) h.0 (grown_some x ns some h.1)
  where
    by_test : (b : Bool) → some_node y ≡ true → list_all some_node (grow x ns) ≡ true → list_all some_node (if b then x ∷ y ∷ ns else y ∷ grow x ns) ≡ true
    by_test true here along = rw some rest
    by_test false here along = rw here along

newest_some : (vs : List Version) → list_all (λ (v : Version). not (v.number == 0)) vs ≡ true → list_all some_node (newest_first vs) ≡ true
newest_some [] all = refl
newest_some (v ∷ vs) all = let h = and_parts (not (v.number == 0)) (list_all (λ (v : Version). not (v.number == 0)) vs) all in grown_some (node_of v) (newest_first vs) h.0 (newest_some vs h.1)

-- what is not there holds nothing
none_at : (pieces : List PieceRecord) (ns : List Node) (c : Cell) → list_all some_node ns ≡ true → seen_at pieces ns 0 c ≡ None
none_at pieces [] c all = refl
none_at pieces (x ∷ ns) c all = let h = and_parts (some_node x) (list_all some_node ns) all in rw (not-true (x.number == 0) h.0) (none_at pieces ns c h.1)

-- each version has a number above 0
numbered : (spaces : ℕ → Option Space) (versions : ℕ → Option Version) (next : ℕ) (v : Version) → is_version spaces versions next v ≡ true → not (v.number == 0) ≡ true
numbered spaces versions next v is = by_space (spaces v.space) (and_parts (nat_lt v.number next) _ is).1
  where
    by_parent : (a : Space) (b : Bool) → (if b then v.number == 1 else stands_under versions v a) ≡ true → not (v.number == 0) ≡ true
    by_parent a true h = one v.number h
      where
        one : (n : ℕ) → (n == 1) ≡ true → not (n == 0) ≡ true
        one n is = grind (arith, nat_tests, is)
    by_parent a false h = above v.parent v.number (and_parts (nat_lt v.parent v.number) _ h).0
      where
        above : (m n : ℕ) → nat_lt m n ≡ true → not (n == 0) ≡ true
        above m n lt = grind (arith, nat_tests, lt)

    by_space : (o : Option Space) → option_map_or (λ (a : Space). if v.parent == 0 then v.number == 1 else stands_under versions v a) o false ≡ true → not (v.number == 0) ≡ true
    by_space None h = absurd (true≢false (sym h))
    by_space (Some a) h = by_parent a (v.parent == 0) h

pub none_seen : (p : Parts) (c : Cell) → keep_rules p ≡ true → seen p 0 c ≡ None
none_seen p c rules =
    let r = ruled p rules in
    let v = ruled_versions p r.counters.next_version r.versions in
    none_at p.pieces (newest_first p.versions) c
    (newest_some p.versions (all_if (is_version (space_of p.spaces) (version_of p.versions) r.counters.next_version) (λ (w : Version). not (w.number == 0)) (numbered (space_of p.spaces) (version_of p.versions) r.counters.next_version) p.versions v.each))
