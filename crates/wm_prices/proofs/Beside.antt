-- Records that differ at few ids beside some: one change after another.
use Rattle.std.proofs.Common.{◌≡◌, ℕ, ◌+◌, ◌≤◌, ◌==◌, Bool, true, false, List, [], ◌++◌, Option, Some, None, refl, sym, ap, ◌∙◌, arith}
use Rattle.std.proofs.lemmas.List.{length-append}
use Rattle.std.proofs.lemmas.List.Folds.{list_any-append}
use Rattle.std.proofs.lemmas.Bool.{or_parts, true≢false}
use Rattle.std.specs.List.{list_any}
use Rattle.std.specs.Option.{option_map_or}
use Rattle.wm_spec.specs.Records.{record_at}
use Rattle.wm_spec.specs.declared.record.Record.{Record}
use Rattle.wm_spec.specs.declared.record.stored.Stored.{Stored}
use Rattle.wm_prices.specs.Prices.{ChangesBeside}

-- more is allowed
pub few_more : (head : Record → Bool) (most more : ℕ) (old new : List Stored) → most ≤ more → ChangesBeside head most old new → ChangesBeside head more old new
few_more head most more old new le c = record { ids = c.ids; few = let f = c.few in omega (arith, le, f); others = c.others }

-- beside more records
pub beside_wider : (head wide : Record → Bool) (most : ℕ) (old new : List Stored) → ((r : Record) → head r ≡ true → wide r ≡ true) → ChangesBeside head most old new → ChangesBeside wide most old new
beside_wider head wide most old new more c = record {
  ids = c.ids;
  few = c.few;
  others = λ id none outside. c.others id none (narrow (record_at old id) outside);
}
  where
    narrow : (o : Option Record) → option_map_or wide o false ≡ false → option_map_or head o false ≡ false
    narrow None e = refl
    narrow (Some r) e = by_test (head r) refl
      where
        by_test : (b : Bool) → head r ≡ b → head r ≡ false
        by_test true is = absurd (true≢false (sym (more r is) ∙ e))
        by_test false is = is

-- nothing changes
pub beside_same : (head : Record → Bool) (old new : List Stored) → new ≡ old → ChangesBeside head 0 old new
beside_same head old new same = record { ids = []; few = omega arith; others = λ id none outside. ap (λ (ss : List Stored). record_at ss id) same }

-- one after the other: what the first leaves as it was is no more among those that are left out for the second than it was before
pub beside_then : (head : Record → Bool) (most more : ℕ) (old between new : List Stored) → ChangesBeside head most old between → ChangesBeside head more between new → ChangesBeside head (most + more) old new
beside_then head most more old between new one two = record {
  ids = one.ids ++ two.ids;
  few = let n = length-append one.ids two.ids in let f = one.few in let g = two.few in omega (arith, n, f, g);
  others = λ id none outside.
      let h = or_parts (list_any (λ k. k == id) one.ids) (list_any (λ k. k == id) two.ids) (sym (list_any-append (λ k. k == id) one.ids two.ids) ∙ none) in
      let first = one.others id h.0 outside in
      two.others id h.1 (ap (λ (o : Option Record). option_map_or head o false) first ∙ outside) ∙ first;
}
