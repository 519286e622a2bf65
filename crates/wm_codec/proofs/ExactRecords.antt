-- The records are exact: the bytes of a record are read as it, and as no other.
use Rattle.std.proofs.Common.{◌≡◌, ℕ, cond, eqb, List, [], ◌∷◌, ◌++◌, length, Some, None, refl, sym, ap, subst, ◌∙◌, inl, inr}
use Rattle.std.proofs.lemmas.Bool.{eqb-true}
use Rattle.std.proofs.lemmas.List.{append-nil, nil_from_length}
use Rattle.std.proofs.lemmas.Option.{same_Some}
use Rattle.wm_spec.specs.declared.record.Record.{Record}
use Rattle.wm_spec.specs.declared.record.Record.TheVariants as records
use Rattle.wm_codec.specs.Format.{Format, byte_at}
use Rattle.wm_codec.specs.Spelling.{counters, column, table, space, version, savepoint, row, piece, trace, lock, hist, turn, spelling, HasSpelling}
use Rattle.wm_codec.specs.Reading.{whole, record_of, record_of_kind}
use Rattle.wm_codec.proofs.Exact.{IsBytes, IsBytes-rest, IsExact, then_some, pair_exact, fields_exact}
use Rattle.wm_codec.proofs.ExactFields.{byte_takes, u16_exact, u32_exact, u64_exact, flag_exact, kind_exact, column_kind_exact, freeze_mode_exact, lock_mode_exact, text_exact}
use Rattle.wm_codec.proofs.ExactValues.{value_exact, cell_range_exact, key_columns_exact, counted_exact, chosen, kept}

-- ---- each record kind, from its fields

counters_exact : IsExact counters
counters_exact = fields_exact _ _ _ (λ b. refl) (λ a. refl) (pair_exact _ _ u64_exact (pair_exact _ _ u64_exact (pair_exact _ _ u32_exact (pair_exact _ _ u64_exact u64_exact))))

column_exact : IsExact column
column_exact = fields_exact _ _ _ (λ b. refl) (λ a. refl) (pair_exact _ _ text_exact (pair_exact _ _ column_kind_exact (pair_exact _ _ u16_exact flag_exact)))

table_exact : IsExact table
table_exact = fields_exact _ _ _ (λ b. refl) (λ a. refl)
    (pair_exact _ _ u16_exact (pair_exact _ _ text_exact (pair_exact _ _ flag_exact (pair_exact _ _ flag_exact (pair_exact _ _ flag_exact
    (pair_exact _ _ key_columns_exact (counted_exact _ column_exact)))))))

space_exact : IsExact space
space_exact = fields_exact _ _ _ (λ b. refl) (λ a. refl)
    (pair_exact _ _ u32_exact (pair_exact _ _ text_exact (pair_exact _ _ u32_exact (pair_exact _ _ u64_exact (pair_exact _ _ u64_exact (pair_exact _ _ u32_exact
    (pair_exact _ _ u64_exact (pair_exact _ _ u64_exact (pair_exact _ _ u64_exact (pair_exact _ _ u32_exact (pair_exact _ _ u32_exact (pair_exact _ _ u32_exact
    (pair_exact _ _ freeze_mode_exact text_exact)))))))))))))

version_exact : IsExact version
version_exact = fields_exact _ _ _ (λ b. refl) (λ a. refl) (pair_exact _ _ u64_exact (pair_exact _ _ u32_exact u64_exact))

savepoint_exact : IsExact savepoint
savepoint_exact = fields_exact _ _ _ (λ b. refl) (λ a. refl)
    (pair_exact _ _ u32_exact (pair_exact _ _ text_exact (pair_exact _ _ flag_exact (pair_exact _ _ u32_exact (pair_exact _ _ u64_exact (pair_exact _ _ u64_exact
    (pair_exact _ _ u64_exact (pair_exact _ _ u64_exact (pair_exact _ _ u64_exact (pair_exact _ _ u64_exact u32_exact))))))))))

row_exact : IsExact row
row_exact = fields_exact _ _ _ (λ b. refl) (λ a. refl) (pair_exact _ _ u64_exact (pair_exact _ _ u16_exact (counted_exact _ value_exact)))

pub piece_exact : IsExact piece
piece_exact = fields_exact _ _ _ (λ b. refl) (λ a. refl)
    (pair_exact _ _ u64_exact (pair_exact _ _ cell_range_exact (pair_exact _ _ u64_exact (pair_exact _ _ kind_exact flag_exact))))

trace_exact : IsExact trace
trace_exact = fields_exact _ _ _ (λ b. refl) (λ a. refl) (pair_exact _ _ u32_exact (pair_exact _ _ u32_exact (pair_exact _ _ cell_range_exact u64_exact)))

lock_exact : IsExact lock
lock_exact = fields_exact _ _ _ (λ b. refl) (λ a. refl)
    (pair_exact _ _ u32_exact (pair_exact _ _ u32_exact (pair_exact _ _ cell_range_exact (pair_exact _ _ lock_mode_exact (pair_exact _ _ text_exact u64_exact)))))

hist_exact : IsExact hist
hist_exact = fields_exact _ _ _ (λ b. refl) (λ a. refl)
    (pair_exact _ _ u32_exact (pair_exact _ _ u64_exact (pair_exact _ _ cell_range_exact (pair_exact _ _ u64_exact (pair_exact _ _ kind_exact
    (pair_exact _ _ flag_exact (pair_exact _ _ u64_exact text_exact)))))))

turn_exact : IsExact turn
turn_exact = fields_exact _ _ _ (λ b. refl) (λ a. refl) (pair_exact _ _ u32_exact (pair_exact _ _ u32_exact (pair_exact _ _ u64_exact u32_exact)))

-- ---- all of the bytes

pub record Spelled {A : Type 0} (format : Format A) (make : A → Record) (bytes : List ℕ) (r : Record) : Type 0 where
  pub it : A
  pub made : make it ≡ r
  pub is : bytes ≡ format.spell it
  pub fits : format.Fits it

whole_takes : {A : Type 0} (format : Format A) (make : A → Record) (bytes : List ℕ) (r : Record) → IsExact format → IsBytes bytes → whole format make bytes ≡ Some r → Spelled format make bytes r
whole_takes format make bytes r exact fits e =
    let x = then_some (format.read bytes) (λ x. cond (eqb (length x.1) 0) (Some (make x.0)) None) r e in
    let t = exact.takes bytes x.0.1 x.0.0 fits x.1 in
    let k = kept (eqb (length x.0.1) 0) (make x.0.0) r x.2 in
    let none : x.0.1 ≡ [] = nil_from_length x.0.1 (eqb-true (length x.0.1) 0 k.0) in
    record { it = x.0.0; made = k.1; is = t.0 ∙ ap (λ rest. format.spell x.0.0 ++ rest) none ∙ append-nil (format.spell x.0.0); fits = t.1 }

whole_again : {A : Type 0} (format : Format A) (make : A → Record) (it : A) → IsExact format → format.Fits it → whole format make (format.spell it) ≡ Some (make it)
whole_again format make it exact fits =
    let read : format.read (format.spell it) ≡ Some (it, []) = ap format.read (sym (append-nil (format.spell it))) ∙ exact.again it [] fits in
    rw read refl

-- what is said of a record that was read behind its kind
abbrev TakesRecord : ℕ → List ℕ → Record → Type 0
TakesRecord tag bytes r = HasSpelling r × (tag ∷ bytes ≡ spelling r)

kind_takes : (tag : ℕ) (bytes : List ℕ) (r : Record) → IsBytes bytes → record_of_kind tag bytes ≡ Some r → TakesRecord tag bytes r
unfolding record_of_kind spelling HasSpelling
kind_takes tag bytes r fits e =
    elim (chosen (eqb tag 1) _ _ _ e) [
      | inl is ↦ let t = whole_takes counters records.Counters bytes r counters_exact fits is.1 in
          rw (eqb-true tag 1 is.0) (subst (TakesRecord 1 bytes) t.made (t.fits, ap (λ b. 1 ∷ b) t.is))
      | inr e ↦ elim (chosen (eqb tag 2) _ _ _ e.1) [
        | inl is ↦ let t = whole_takes table records.Table bytes r table_exact fits is.1 in
            rw (eqb-true tag 2 is.0) (subst (TakesRecord 2 bytes) t.made (t.fits, ap (λ b. 2 ∷ b) t.is))
        | inr e ↦ elim (chosen (eqb tag 3) _ _ _ e.1) [
          | inl is ↦ let t = whole_takes space records.Space bytes r space_exact fits is.1 in
              rw (eqb-true tag 3 is.0) (subst (TakesRecord 3 bytes) t.made (t.fits, ap (λ b. 3 ∷ b) t.is))
          | inr e ↦ elim (chosen (eqb tag 4) _ _ _ e.1) [
            | inl is ↦ let t = whole_takes version records.Version bytes r version_exact fits is.1 in
                rw (eqb-true tag 4 is.0) (subst (TakesRecord 4 bytes) t.made (t.fits, ap (λ b. 4 ∷ b) t.is))
            | inr e ↦ elim (chosen (eqb tag 5) _ _ _ e.1) [
              | inl is ↦ let t = whole_takes savepoint records.Savepoint bytes r savepoint_exact fits is.1 in
                  rw (eqb-true tag 5 is.0) (subst (TakesRecord 5 bytes) t.made (t.fits, ap (λ b. 5 ∷ b) t.is))
              | inr e ↦ elim (chosen (eqb tag 6) _ _ _ e.1) [
                | inl is ↦ let t = whole_takes row records.Row bytes r row_exact fits is.1 in
                    rw (eqb-true tag 6 is.0) (subst (TakesRecord 6 bytes) t.made (t.fits, ap (λ b. 6 ∷ b) t.is))
                | inr e ↦ elim (chosen (eqb tag 7) _ _ _ e.1) [
                  | inl is ↦ let t = whole_takes piece records.Piece bytes r piece_exact fits is.1 in
                      rw (eqb-true tag 7 is.0) (subst (TakesRecord 7 bytes) t.made (t.fits, ap (λ b. 7 ∷ b) t.is))
                  | inr e ↦ elim (chosen (eqb tag 8) _ _ _ e.1) [
                    | inl is ↦ let t = whole_takes trace records.Touch bytes r trace_exact fits is.1 in
                        rw (eqb-true tag 8 is.0) (subst (TakesRecord 8 bytes) t.made (t.fits, ap (λ b. 8 ∷ b) t.is))
                    | inr e ↦ elim (chosen (eqb tag 9) _ _ _ e.1) [
                      | inl is ↦ let t = whole_takes lock records.Lock bytes r lock_exact fits is.1 in
                          rw (eqb-true tag 9 is.0) (subst (TakesRecord 9 bytes) t.made (t.fits, ap (λ b. 9 ∷ b) t.is))
                      | inr e ↦ elim (chosen (eqb tag 10) _ _ _ e.1) [
                        | inl is ↦ let t = whole_takes hist records.Hist bytes r hist_exact fits is.1 in
                            rw (eqb-true tag 10 is.0) (subst (TakesRecord 10 bytes) t.made (t.fits, ap (λ b. 10 ∷ b) t.is))
                        | inr e ↦ elim (chosen (eqb tag 11) _ _ _ e.1) [
                          | inl is ↦ let t = whole_takes trace records.Mark bytes r trace_exact fits is.1 in
                              rw (eqb-true tag 11 is.0) (subst (TakesRecord 11 bytes) t.made (t.fits, ap (λ b. 11 ∷ b) t.is))
                          | inr e ↦ elim (chosen (eqb tag 12) _ _ _ e.1) [
                            | inl is ↦ let t = whole_takes turn records.Turn bytes r turn_exact fits is.1 in
                                rw (eqb-true tag 12 is.0) (subst (TakesRecord 12 bytes) t.made (t.fits, ap (λ b. 12 ∷ b) t.is))
                            | inr e ↦ absurd cc
                          ]
                        ]
                      ]
                    ]
                  ]
                ]
              ]
            ]
          ]
        ]
      ]
    ]

-- what is read is spelled so
pub record_takes : (bytes : List ℕ) (r : Record) → IsBytes bytes → record_of bytes ≡ Some r → HasSpelling r × (bytes ≡ spelling r)
unfolding record_of
record_takes bytes r fits e =
    let tag = then_some (byte_at bytes) (λ tag. record_of_kind tag.0 tag.1) r e in
    let byte = byte_takes bytes tag.0.1 tag.0.0 tag.1 in
    let behind = IsBytes-rest (tag.0.0 ∷ []) tag.0.1 (subst IsBytes byte fits) in
    let t = kind_takes tag.0.0 tag.0.1 r behind tag.2 in
    (t.0, byte ∙ t.1)

-- what is spelled so is read
pub record_again : (r : Record) → HasSpelling r → record_of (spelling r) ≡ Some r
unfolding record_of record_of_kind spelling HasSpelling
record_again (records.Counters r) fits = whole_again counters records.Counters r counters_exact fits
record_again (records.Table r) fits = whole_again table records.Table r table_exact fits
record_again (records.Space r) fits = whole_again space records.Space r space_exact fits
record_again (records.Version r) fits = whole_again version records.Version r version_exact fits
record_again (records.Savepoint r) fits = whole_again savepoint records.Savepoint r savepoint_exact fits
record_again (records.Row r) fits = whole_again row records.Row r row_exact fits
record_again (records.Piece r) fits = whole_again piece records.Piece r piece_exact fits
record_again (records.Touch r) fits = whole_again trace records.Touch r trace_exact fits
record_again (records.Lock r) fits = whole_again lock records.Lock r lock_exact fits
record_again (records.Hist r) fits = whole_again hist records.Hist r hist_exact fits
record_again (records.Mark r) fits = whole_again trace records.Mark r trace_exact fits
record_again (records.Turn r) fits = whole_again turn records.Turn r turn_exact fits

-- no two records have one spelling
pub spelling_injective : (r s : Record) → HasSpelling r → HasSpelling s → spelling r ≡ spelling s → r ≡ s
spelling_injective r s r_fits s_fits e = same_Some r s (sym (record_again r r_fits) ∙ ap record_of e ∙ record_again s s_fits)
