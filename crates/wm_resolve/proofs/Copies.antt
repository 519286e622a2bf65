-- Copies of what pieces say, one piece after another.
use Rattle.std.proofs.Common.{◌≡◌, ℕ, ◌+◌, ◌<◌, ◌≤◌, ◌==◌, ◌&&◌, nat_lt, max, min, Bool, true, false, if◌then◌else◌, List, [], ◌∷◌, ◌++◌, drop, length, take, get_or, Option, None, Some, option_map, refl, sym, ap, ◌∙◌, arith, subst, eqb-true}
use Rattle.std.proofs.lemmas.Bool.Decides.{nat_tests}
use Rattle.std.proofs.lemmas.List.{append_assoc, drop_more, take_all, take_more}
use Rattle.std.proofs.lemmas.Bool.{and_parts}
use Rattle.std.proofs.lemmas.Option.{same_Some}
use Rattle.std.specs.Bool.{then_some}
use Rattle.std.specs.Option.{option_or}
use Rattle.wm_base.proofs.Plain.{option_or-none, option_or_assoc}
use Rattle.wm_base.specs.Period.{Span, covers, overlaps, shared}
use Rattle.wm_base.specs.declared.instant.TheConstants.{END}
use Rattle.wm_base.specs.declared.row.Row.{Row}
use Rattle.wm_graph.specs.Parts.{Parts}
use Rattle.wm_net.specs.Listed.{IsApart, IsJoined, Ordered, Stretch, value_at, within}
use Rattle.wm_net.specs.Nets.{one_stamp}
use Rattle.wm_net.proofs.Stretching.{within_is, within_not_after}
use Rattle.wm_period.specs.Pieces.{Between, Held, held, held_at}
use Rattle.wm_period.specs.declared.piece.Piece.{Piece}
use Rattle.wm_spec.specs.Lists.{Told}
use Rattle.wm_telling.specs.Telling.{told_by}
use Rattle.wm_resolve.specs.Copying.{AreCopies, SayOne, copy_in, extended, laid, shares}

-- ---- one more

-- all have ended by an instant
abbrev EndBy : {A : Type 0} → ℕ → List (Stretch A) → Type 0
EndBy low [] = Unit {0}
EndBy low (x ∷ xs) = (x.till ≤ low) × EndBy low xs

end_later : {A : Type 0} (low high : ℕ) (ss : List (Stretch A)) → low ≤ high → EndBy low ss → EndBy high ss
end_later low high [] le ends = tt
end_later low high (x ∷ xs) le ends = (omega (arith, le, ends.0), end_later low high xs le ends.1)

end_extended : {A : Type 0} (same : A → A → Bool) (ss : List (Stretch A)) (s : Stretch A) → EndBy s.till ss → EndBy s.till (extended same ss s)
end_extended same [] s ends = (omega arith, tt)
end_extended {A = A} same (x ∷ []) s ends = by_test ((x.till == s.from) && same x.value s.value)
  where
    by_test : (b : Bool) → EndBy s.till (if b then record { from = x.from; till = s.till; value = x.value } ∷ [] else x ∷ s ∷ [])
    by_test true = (omega arith, tt)
    by_test false = (ends.0, (omega arith, tt))
end_extended same (x ∷ y ∷ ys) s ends = (ends.0, end_extended same (y ∷ ys) s ends.1)

ordered_extended : {A : Type 0} (same : A → A → Bool) (low : ℕ) (ss : List (Stretch A)) (s : Stretch A) → Ordered low ss → EndBy s.from ss → low ≤ s.from → s.from < s.till → Ordered low (extended same ss s)
ordered_extended same low [] s o ends le real = (le, real, tt)
ordered_extended {A = A} same low (x ∷ []) s o ends le real = by_test ((x.till == s.from) && same x.value s.value)
  where
    by_test : (b : Bool) → Ordered low (if b then record { from = x.from; till = s.till; value = x.value } ∷ [] else x ∷ s ∷ [])
    by_test true = (o.0, omega (arith, o.1, ends.0, real), tt)
    by_test false = (o.0, o.1, (ends.0, real, tt))
ordered_extended same low (x ∷ y ∷ ys) s o ends le real = (o.0, o.1, ordered_extended same x.till (y ∷ ys) s o.2 ends.1 ends.0 real)

joined_extended : {A : Type 0} (same : A → A → Bool) (ss : List (Stretch A)) (s : Stretch A) → IsJoined same ss → IsJoined same (extended same ss s)
joined_extended same [] s j = (tt, tt)
joined_extended {A = A} same (x ∷ []) s j = by_test ((x.till == s.from) && same x.value s.value) refl
  where
    by_test : (b : Bool) → ((x.till == s.from) && same x.value s.value) ≡ b → IsJoined same (if b then record { from = x.from; till = s.till; value = x.value } ∷ [] else x ∷ s ∷ [])
    by_test true is = (tt, tt)
    by_test false is = (is, (tt, tt))
joined_extended {A = A} same (x ∷ y ∷ ys) s j = (apart ys, joined_extended same (y ∷ ys) s j.1)
  where
    apart : (zs : List (Stretch A)) → IsApart same x (extended same (y ∷ zs) s)
    apart [] = by_test ((y.till == s.from) && same y.value s.value)
      where
        by_test : (b : Bool) → IsApart same x (if b then record { from = y.from; till = s.till; value = y.value } ∷ [] else y ∷ s ∷ [])
        by_test true = j.0
        by_test false = j.0
    apart (z ∷ zs) = j.0

value_extended : {A : Type 0} (same : A → A → Bool) (low : ℕ) (ss : List (Stretch A)) (s : Stretch A) → Ordered low ss → EndBy s.from ss → s.from < s.till
    → ((t : ℕ) (x : A) → value_at ss t ≡ Some x → same x s.value ≡ true → x ≡ s.value) → (t : ℕ)
    → value_at (extended same ss s) t ≡ option_or (then_some (within s.from s.till t) s.value) (value_at ss t)
value_extended same low [] s o ends real one t = sym (option_or-none (then_some (within s.from s.till t) s.value))
value_extended {A = A} same low (x ∷ []) s o ends real one t = by_test ((x.till == s.from) && same x.value s.value) refl
  where
    here : value_at (x ∷ []) x.from ≡ Some x.value
    here = ap (λ b. then_some b x.value) (within_is x.from x.till x.from (omega arith) o.1)

    by_test : (b : Bool) → ((x.till == s.from) && same x.value s.value) ≡ b
        → value_at (if b then record { from = x.from; till = s.till; value = x.value } ∷ [] else x ∷ s ∷ []) t ≡ option_or (then_some (within s.from s.till t) s.value) (then_some (within x.from x.till t) x.value)
    by_test false is = ap (λ o. option_or o (then_some (within x.from x.till t) x.value)) refl
    by_test true is =
        let two = and_parts (x.till == s.from) (same x.value s.value) is in
        ap (λ b. then_some b x.value) (longer x.from x.till s.from s.till t (eqb-true x.till s.from two.0) o.1 real)
        ∙ by_tests (within s.from s.till t) (within x.from x.till t)
        ∙ ap (λ v. option_or (then_some (within s.from s.till t) v) (then_some (within x.from x.till t) x.value)) (one x.from x.value here two.1)
      where
        longer : (from middle from_of till t : ℕ) → middle ≡ from_of → from < middle → from_of < till → within from till t ≡ (if within from_of till t then true else within from middle t)
        longer from middle from_of till t meets first second = grind (arith, nat_tests, meets, first, second)

        by_tests : (b d : Bool) → then_some (if b then true else d) x.value ≡ option_or (then_some b x.value) (then_some d x.value)
        by_tests true d = refl
        by_tests false d = refl
value_extended {A = A} same low (x ∷ y ∷ ys) s o ends real one t =
    ap (λ o. option_or o (then_some (within x.from x.till t) x.value))
    (value_extended same x.till (y ∷ ys) s o.2 ends.1 real (λ u v is. one u v (ap (λ o. option_or o (then_some (within x.from x.till u) x.value)) is)) t)
    ∙ option_or_assoc (then_some (within s.from s.till t) s.value) (value_at (y ∷ ys) t) (then_some (within x.from x.till t) x.value)

-- ---- pieces

-- copies of the pieces up to an instant
pub record AreLaid (p : Parts) (from till low : ℕ) (ps : List Piece) (ss : List (Stretch Told)) : Type 0 where
  pub copies : AreCopies p from till ps ss
  pub ends : EndBy low ss
  pub done : (t : ℕ) → low ≤ t → held_at ps t ≡ None

held_append : (xs : List Piece) (x : Piece) (t : ℕ) → held_at (xs ++ x ∷ []) t ≡ option_or (held_at xs t) (then_some (covers x.period t) (held x))
held_append [] x t = option_or-none (then_some (covers x.period t) (held x))
held_append (y ∷ ys) x t = ap (option_or (then_some (covers y.period t) (held y))) (held_append ys x t) ∙ sym (option_or_assoc (then_some (covers y.period t) (held y)) (held_at ys t) (then_some (covers x.period t) (held x)))

module _ (p : Parts) (from till : ℕ) (low : ℕ) (ps : List Piece) (ss : List (Stretch Told)) (x : Piece) (are : AreLaid p from till low ps ss) (begins : low ≤ x.period.from) (real : x.period.from < x.period.till) where
  -- they say one thing without the last
  fewer : SayOne (ps ++ x ∷ []) → SayOne ps
  fewer say t u h k is so same = say t u h k (held_append ps x t ∙ ap (λ o. option_or o (then_some (covers x.period t) (held x))) is) (held_append ps x u ∙ ap (λ o. option_or o (then_some (covers x.period u) (held x))) so) same

  last_held : held_at (ps ++ x ∷ []) x.period.from ≡ Some (held x)
  last_held =
      held_append ps x x.period.from
      ∙ ap (λ o. option_or o (then_some (covers x.period x.period.from) (held x))) (are.done x.period.from begins)
      ∙ ap (λ b. then_some b (held x)) (within_is x.period.from x.period.till x.period.from (omega arith) real)

  -- a value of them with the stamp of the last is what it says
  one : SayOne (ps ++ x ∷ []) → (t : ℕ) (v : Told) → value_at ss t ≡ Some v → one_stamp v (told_by p (held x)) ≡ true → v ≡ told_by p (held x)
  one say t v is same = by_within (within from till t) (held_at ps t) refl (sym (are.copies.holds (fewer say) t) ∙ is)
    where
      by_within : (b : Bool) (o : Option Held) → held_at ps t ≡ o → (if b then option_map (told_by p) o else None) ≡ Some v → v ≡ told_by p (held x)
      by_within true None at e = absurd (cc)
      by_within true (Some h) at e =
          let told : told_by p h ≡ v = same_Some (told_by p h) v e in
          sym told
          ∙ ap (told_by p)
          (say t x.period.from h (held x) (held_append ps x t ∙ ap (λ o. option_or o (then_some (covers x.period t) (held x))) at) last_held
          (ap (λ (y : Told). y.stamp) told ∙ eqb-true v.stamp x.stamp.number same))
      by_within false o at e = absurd (cc)

  cut_holds : (t : ℕ) (s : Bool) → shares from till x ≡ s
      → SayOne (ps ++ x ∷ []) → value_at (if s then extended one_stamp ss (copy_in p from till x) else ss) t
      ≡ (if within from till t then option_map (told_by p) (option_or (held_at ps t) (then_some (covers x.period t) (held x))) else None)
  cut_holds t true is say =
      value_extended one_stamp 0 ss (copy_in p from till x) are.copies.ordered (end_later low (max x.period.from from) ss (omega (arith, begins)) are.ends) (shared x.period.from x.period.till from till is) (one say) t
      ∙ ap (option_or (then_some (within (max x.period.from from) (min x.period.till till) t) (told_by p (held x)))) (are.copies.holds (fewer say) t)
      ∙ ap (λ b. option_or (then_some b (told_by p (held x))) (if within from till t then option_map (told_by p) (held_at ps t) else None)) (cut_within x.period.from x.period.till from till t)
      ∙ by_tests (within from till t) (within x.period.from x.period.till t) (held_at ps t) (λ inside. are.done t (omega (arith, begins, before x.period.from x.period.till t inside)))
    where
      shared : (a b c d : ℕ) → nat_lt (max a c) (min b d) ≡ true → max a c < min b d
      shared a b c d is = grind (arith, nat_tests, is)

      cut_within : (a b c d t : ℕ) → within (max a c) (min b d) t ≡ (within c d t && within a b t)
      cut_within a b c d t = grind (arith, nat_tests)

      before : (a b t : ℕ) → within a b t ≡ true → a ≤ t
      before a b t is = grind (arith, nat_tests, is)

      by_tests : (i c : Bool) (o : Option Held) → (c ≡ true → o ≡ None)
          → option_or (then_some (i && c) (told_by p (held x))) (if i then option_map (told_by p) o else None) ≡ (if i then option_map (told_by p) (option_or o (then_some c (held x))) else None)
      by_tests false c o none = refl
      by_tests true true o none = sym (ap (λ q. option_map (told_by p) (option_or q (Some (held x)))) (none refl))
      by_tests true false o none = sym (ap (option_map (told_by p)) (option_or-none o))
  cut_holds t false is say =
      are.copies.holds (fewer say) t
      ∙ by_tests (within from till t) (within x.period.from x.period.till t) (held_at ps t) (apart x.period.from x.period.till from till t is)
    where
      apart : (a b c d t : ℕ) → nat_lt (max a c) (min b d) ≡ false → within c d t ≡ true → within a b t ≡ false
      apart a b c d t is inside = grind (arith, nat_tests, is, inside)

      by_tests : (i c : Bool) (o : Option Held) → (i ≡ true → c ≡ false) → (if i then option_map (told_by p) o else None) ≡ (if i then option_map (told_by p) (option_or o (then_some c (held x))) else None)
      by_tests false c o out = refl
      by_tests true c o out = ap (option_map (told_by p)) (sym (option_or-none o) ∙ ap (λ b. option_or o (then_some b (held x))) (sym (out refl)))

  pub laid_more : AreLaid p from till x.period.till (ps ++ x ∷ []) (laid p from till ss x)
  laid_more = by_shares (shares from till x) refl
    where
      past : (t : ℕ) → x.period.till ≤ t → held_at (ps ++ x ∷ []) t ≡ None
      past t le =
          held_append ps x t
          ∙ ap (λ o. option_or o (then_some (covers x.period t) (held x))) (are.done t (omega (arith, begins, real, le)))
          ∙ ap (λ b. then_some b (held x)) (within_not_after x.period.from x.period.till t le)

      by_shares : (s : Bool) → shares from till x ≡ s → AreLaid p from till x.period.till (ps ++ x ∷ []) (if s then extended one_stamp ss (copy_in p from till x) else ss)
      by_shares true is =
          let cut : max x.period.from from < min x.period.till till = shared x.period.from x.period.till from till is in
          let early = end_later low (max x.period.from from) ss (omega (arith, begins)) are.ends in
          record {
            copies = record {
              ordered = ordered_extended one_stamp 0 ss (copy_in p from till x) are.copies.ordered early (omega arith) cut;
              joined = joined_extended one_stamp ss (copy_in p from till x) are.copies.joined;
              holds = λ say t. cut_holds t true is say ∙ sym (ap (λ o. if within from till t then option_map (told_by p) o else None) (held_append ps x t));
            };
            ends = end_later (min x.period.till till) x.period.till (extended one_stamp ss (copy_in p from till x)) (omega arith)
                (end_extended one_stamp ss (copy_in p from till x) (end_later (max x.period.from from) (min x.period.till till) ss (omega (arith, cut)) early));
            done = past;
          }
        where
          shared : (a b c d : ℕ) → nat_lt (max a c) (min b d) ≡ true → max a c < min b d
          shared a b c d is = grind (arith, nat_tests, is)
      by_shares false is = record {
        copies = record {
          ordered = are.copies.ordered;
          joined = are.copies.joined;
          holds = λ say t. cut_holds t false is say ∙ sym (ap (λ o. if within from till t then option_map (told_by p) o else None) (held_append ps x t));
        };
        ends = end_later low x.period.till ss (omega (arith, begins, real)) are.ends;
        done = past;
      }

pub laid_none : (p : Parts) (from till : ℕ) → AreLaid p from till 0 [] []
laid_none p from till = record { copies = record { ordered = tt; joined = tt; holds = λ say t. by_test (within from till t) }; ends = tt; done = λ t le. refl }
  where
    by_test : (b : Bool) → (let none : Option Told = None in none) ≡ (if b then None else None)
    by_test true = refl
    by_test false = refl

-- ---- by a loop

-- copies of the first pieces of some
pub record Lays (p : Parts) (from till : ℕ) (ps : List Piece) (i : ℕ) (ss : List (Stretch Told)) : Type 0 where
  pub low : ℕ
  pub laid : AreLaid p from till low (take i ps) ss
  pub rest : Between low (drop i ps) END

pub lays_first : (p : Parts) (from till : ℕ) (ps : List Piece) → Between 0 ps END → Lays p from till ps 0 []
lays_first p from till ps lie = record { low = 0; laid = laid_none p from till; rest = lie }

pub lays_next : (p : Parts) (from till : ℕ) (ps : List Piece) (i : ℕ) (x : Piece) (ss new : List (Stretch Told)) → i < length ps → x ≡ get_or ps i x → new ≡ laid p from till ss x → Lays p from till ps i ss → Lays p from till ps (i + 1) new
lays_next p from till ps i x ss new within is made lays =
    let rest : Between lays.low (x ∷ drop (i + 1) ps) END = subst (λ qs. Between lays.low qs END) (drop_more ps i x within ∙ ap (λ y. y ∷ drop (i + 1) ps) (sym is)) lays.rest in
    record {
      low = x.period.till;
      laid =
          subst (λ qs. AreLaid p from till x.period.till qs new) (sym (take_more ps i x within ∙ ap (λ y. take i ps ++ y ∷ []) (sym is)))
          (subst (AreLaid p from till x.period.till (take i ps ++ x ∷ [])) (sym made) (laid_more p from till lays.low (take i ps) ss x lays.laid rest.0 rest.1));
      rest = rest.2;
    }

pub lays_all : (p : Parts) (from till : ℕ) (ps : List Piece) (i : ℕ) (ss : List (Stretch Told)) → length ps ≤ i → Lays p from till ps i ss → AreCopies p from till ps ss
lays_all p from till ps i ss past lays = subst (λ qs. AreCopies p from till qs ss) (take_all i ps past) lays.laid.copies

-- ---- the last of some

pub extended_last : {A : Type 0} (same : A → A → Bool) (front : List (Stretch A)) (x s : Stretch A) → extended same (front ++ x ∷ []) s ≡ front ++ extended same (x ∷ []) s
extended_last same [] x s = refl
extended_last same (y ∷ []) x s = refl
extended_last same (y ∷ z ∷ front) x s = ap (λ ss. y ∷ ss) (extended_last same (z ∷ front) x s)

-- the last is made longer
pub extended_longer : {A : Type 0} (same : A → A → Bool) (front old new : List (Stretch A)) (x s long : Stretch A) → old ≡ front ++ x ∷ [] → long ≡ record { from = x.from; till = s.till; value = x.value } → ((x.till == s.from) && same x.value s.value) ≡ true
    → new ≡ front ++ long ∷ [] → new ≡ extended same old s
extended_longer {A = A} same front old new x s long is so meets made =
    made
    ∙ ap (λ y. front ++ y ∷ []) so
    ∙ sym (ap (λ (b : Bool). front ++ (if b then record { from = x.from; till = s.till; value = x.value } ∷ [] else x ∷ s ∷ [])) meets)
    ∙ sym (extended_last same front x s)
    ∙ ap (λ ss. extended same ss s) (sym is)

-- and here another comes behind it
pub extended_more : {A : Type 0} (same : A → A → Bool) (front old new : List (Stretch A)) (x s : Stretch A) → old ≡ front ++ x ∷ [] → ((x.till == s.from) && same x.value s.value) ≡ false → new ≡ (front ++ x ∷ []) ++ s ∷ [] → new ≡ extended same old s
extended_more {A = A} same front old new x s is meets made =
    made ∙ append_assoc front (x ∷ []) (s ∷ [])
    ∙ sym (ap (λ (b : Bool). front ++ (if b then record { from = x.from; till = s.till; value = x.value } ∷ [] else x ∷ s ∷ [])) meets)
    ∙ sym (extended_last same front x s)
    ∙ ap (λ ss. extended same ss s) (sym is)

pub extended_first : {A : Type 0} (same : A → A → Bool) (old new : List (Stretch A)) (s : Stretch A) → old ≡ [] → new ≡ old ++ s ∷ [] → new ≡ extended same old s
extended_first same old new s none made = made ∙ ap (λ ss. ss ++ s ∷ []) none ∙ ap (λ ss. extended same ss s) (sym none)

-- ---- one piece

-- one that has something of the period
pub laid_some : (p : Parts) (period : Span) (x : Piece) (ss new : List (Stretch Told)) (cut : Span) (row : Option Row) → x.period.from < x.period.till → period.from < period.till → overlaps x.period period ≡ true
    → cut ≡ shared x.period period → row ≡ (told_by p (held x)).row → new ≡ extended one_stamp ss (record { from = cut.from; till = cut.till; value = record { stamp = x.stamp.number; kind = x.kind; row = row } })
    → new ≡ laid p period.from period.till ss x
laid_some p period x ss new cut row real long over cut_is same made =
    made
    ∙ (λ j. extended one_stamp ss (record { from = (cut_is j).from; till = (cut_is j).till; value = record { stamp = x.stamp.number; kind = x.kind; row = same j } }))
    ∙ sym (ap (λ (b : Bool). if b then extended one_stamp ss (copy_in p period.from period.till x) else ss) (meets x.period.from x.period.till period.from period.till real long over))
  where
    meets : (a b c d : ℕ) → a < b → c < d → (nat_lt a d && nat_lt c b) ≡ true → nat_lt (max a c) (min b d) ≡ true
    meets a b c d first second over = grind (arith, nat_tests, first, second, over)

-- one that has nothing of it
pub laid_none_of : (p : Parts) (period : Span) (x : Piece) (ss : List (Stretch Told)) → overlaps x.period period ≡ false → ss ≡ laid p period.from period.till ss x
laid_none_of p period x ss out = sym (ap (λ (b : Bool). if b then extended one_stamp ss (copy_in p period.from period.till x) else ss) (apart x.period.from x.period.till period.from period.till out))
  where
    apart : (a b c d : ℕ) → (nat_lt a d && nat_lt c b) ≡ false → nat_lt (max a c) (min b d) ≡ false
    apart a b c d out = grind (arith, nat_tests, out)
