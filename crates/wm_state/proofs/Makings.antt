-- The greatest making of the record of a savepoint, and the room that the work leaves for the next.
use Rattle.std.proofs.Common.{◌≡◌, ℕ, ◌+◌, ◌≤◌, ◌<◌, ◌&&◌, nat_lt, nat_le, max, true, List, [], ◌∷◌, refl, sym, ap, ◌∙◌, arith}
use Rattle.std.proofs.lemmas.Bool.{and_from, and_parts}
use Rattle.std.specs.List.{list_all}
use Rattle.wm_graph.specs.Parts.{Parts, space_of, version_of}
use Rattle.wm_graph.specs.Rules.{keep_rules, is_savepoint, is_short}
use Rattle.wm_spec.specs.declared.record.counters.Counters.{Counters}
use Rattle.wm_spec.specs.declared.record.savepoint.Savepoint.{Savepoint}
use Rattle.wm_state.proofs.Apart.{ruled}
use Rattle.wm_state.proofs.Growing.{same_counters}
use Rattle.wm_state.proofs.Named.{ruled_savepoints}
use Rattle.wm_state.proofs.Tests.{all_if}

-- the greatest making, 0 where there is no savepoint
abbrev pub greatest_making : List Savepoint → ℕ
greatest_making [] = 0
greatest_making (x ∷ xs) = max x.making (greatest_making xs)

-- all savepoints were made before the one of a greater making
pub made_before : (xs : List Savepoint) (making : ℕ) → greatest_making xs < making → list_all (λ (y : Savepoint). nat_lt y.making making) xs ≡ true
made_before [] making lt = refl
made_before (x ∷ xs) making lt = and_from (nat_lt x.making making) _ (first x.making (greatest_making xs) making lt) (made_before xs making (others x.making (greatest_making xs) making lt))
  where
    first : (a b c : ℕ) → max a b < c → nat_lt a c ≡ true
    first a b c lt = grind (arith, lt)

    others : (a b c : ℕ) → max a b < c → b < c
    others a b c lt = omega (arith, lt)

greatest_under : (xs : List Savepoint) (n : ℕ) → list_all (λ (y : Savepoint). nat_le y.making n) xs ≡ true → greatest_making xs ≤ n
greatest_under [] n all = omega arith
greatest_under (x ∷ xs) n all =
    let h = and_parts (nat_le x.making n) (list_all (λ (y : Savepoint). nat_le y.making n) xs) all in
    greater x.making (greatest_making xs) n h.0 (greatest_under xs n h.1)
  where
    greater : (a b c : ℕ) → nat_le a c ≡ true → b ≤ c → max a b ≤ c
    greater a b c le also = grind (arith, le, also)

-- no making is above what the work allows
pub greatest_room : (p : Parts) (old : Counters) → keep_rules p ≡ true → p.counters ≡ old ∷ [] → greatest_making p.savepoints ≤ old.work + 2
greatest_room p old rules one =
    let r = ruled p rules in
    let same : r.counters ≡ old = same_counters p old r.counters one r.one in
    greatest_under p.savepoints (old.work + 2)
    (all_if (is_savepoint (space_of p.spaces) (version_of p.versions) old.work) (λ (y : Savepoint). nat_le y.making (old.work + 2))
    (λ y is. (and_parts (is_short y.name) (nat_le y.making (old.work + 2)) (and_parts (is_short y.name && nat_le y.making (old.work + 2)) _ is).0).1) p.savepoints
    (ap (λ (c : Counters). list_all (is_savepoint (space_of p.spaces) (version_of p.versions) c.work) p.savepoints) (sym same) ∙ (ruled_savepoints p r.counters.work r.savepoints).each))
