-- The ids of rows, by stamp, when those of one stamp change.
use Rattle.std.proofs.Common.{◌≡◌, ◌≢◌, ℕ, ◌==◌, true, false, cond, List, [], ◌∷◌, Option, Some, None, refl, sym, ap, ◌∙◌, ◌⊎◌, inl, inr}
use Rattle.std.proofs.lemmas.Bool.{cases_eq, eq-eqb, ne_eqb}
use Rattle.std.specs.BTreeMap.{is_at}
use Rattle.std.specs.Map.{lookup}
use Rattle.std.specs.Ordering.{nat_cmp}
use Rattle.wm_chunks.specs.Numbers.{Sets, value_at}
use Rattle.wm_ids.proofs.TableLists.{is_at-number}
use Rattle.wm_ids.specs.Rows.{one_or, row_ids}
use Rattle.wm_ids.specs.Ids.{ids_found, ids_in, placed, without}
use Rattle.wm_ids.specs.declared.rows.RowIds.{RowIds}

-- the ids of one stamp change, and those of each other stay
abbrev pub Changes : (List ℕ → List ℕ) → ℕ → RowIds → RowIds → Type 0
Changes change stamp old new = (q : ℕ) → row_ids new q ≡ cond (stamp == q) (change (row_ids old q)) (row_ids old q)

told : (change : List ℕ → List ℕ) (stamp : ℕ) (old new : RowIds) → row_ids new stamp ≡ change (row_ids old stamp) → ((q : ℕ) → stamp ≢ q → row_ids new q ≡ row_ids old q) → Changes change stamp old new
told change stamp old new here others q = by_stamp (cases_eq stamp q)
  where
    by_stamp : (stamp ≡ q) ⊎ (stamp ≢ q) → row_ids new q ≡ cond (stamp == q) (change (row_ids old q)) (row_ids old q)
    by_stamp (inl same) = ap (row_ids new) (sym same) ∙ here ∙ ap (λ n. change (row_ids old n)) same ∙ sym (ap (λ b. cond b (change (row_ids old q)) (row_ids old q)) (eq-eqb stamp q same))
    by_stamp (inr apart) = others q apart ∙ sym (ap (λ b. cond b (change (row_ids old q)) (row_ids old q)) (ne_eqb stamp q apart))

at_here : (stamp : ℕ) → is_at (nat_cmp stamp) stamp ≡ true
at_here stamp = is_at-number stamp stamp ∙ eq-eqb stamp stamp refl

at_away : (stamp q : ℕ) → stamp ≢ q → is_at (nat_cmp stamp) q ≡ false
at_away stamp q apart = is_at-number stamp q ∙ ne_eqb stamp q apart

-- an entry is set
set_here : {V : Type 0} (stamp : ℕ) (o : Option V) (f g : ℕ → Option V) → ((q : ℕ) → g q ≡ cond (is_at (nat_cmp stamp) q) o (f q)) → g stamp ≡ o
set_here stamp o f g sets = sets stamp ∙ ap (λ b. cond b o (f stamp)) (at_here stamp)

set_away : {V : Type 0} (stamp : ℕ) (o : Option V) (f g : ℕ → Option V) → ((q : ℕ) → g q ≡ cond (is_at (nat_cmp stamp) q) o (f q)) → (q : ℕ) → stamp ≢ q → g q ≡ f q
set_away stamp o f g sets q apart = sets q ∙ ap (λ b. cond b o (f q)) (at_away stamp q apart)

-- what one stamp has is written
both_told : (change : List ℕ → List ℕ) (stamp : ℕ) (old new : RowIds) (o : Option ℕ) (v : Option (List ℕ)) → Sets stamp o old.one.entries new.one.entries
    → ((q : ℕ) → lookup (is_at (nat_cmp q)) new.several.entries ≡ cond (is_at (nat_cmp stamp) q) v (lookup (is_at (nat_cmp q)) old.several.entries))
    → one_or o (ids_found v) ≡ change (row_ids old stamp) → Changes change stamp old new
both_told change stamp old new o v one several here =
    told change stamp old new
    (ap (λ w. one_or w (ids_in nat_cmp new.several.entries stamp)) (set_here stamp o (value_at old.one.entries) (value_at new.one.entries) one)
    ∙ ap (λ w. one_or o (ids_found w)) (set_here stamp v (λ q. lookup (is_at (nat_cmp q)) old.several.entries) (λ q. lookup (is_at (nat_cmp q)) new.several.entries) several)
    ∙ here)
    (λ q apart.
    ap (λ w. one_or w (ids_in nat_cmp new.several.entries q)) (set_away stamp o (value_at old.one.entries) (value_at new.one.entries) one q apart)
    ∙ ap (λ w. one_or (value_at old.one.entries q) (ids_found w))
    (set_away stamp v (λ k. lookup (is_at (nat_cmp k)) old.several.entries) (λ k. lookup (is_at (nat_cmp k)) new.several.entries) several q apart))

-- a second id
pub second_told : (id other stamp : ℕ) (old new : RowIds) (ids : List ℕ) → value_at old.one.entries stamp ≡ Some other → ids ≡ placed id (other ∷ []) → Sets stamp None old.one.entries new.one.entries
    → ((q : ℕ) → lookup (is_at (nat_cmp q)) new.several.entries ≡ cond (is_at (nat_cmp stamp) q) (Some ids) (lookup (is_at (nat_cmp q)) old.several.entries)) → Changes (placed id) stamp old new
second_told id other stamp old new ids was items one several =
    both_told (placed id) stamp old new None (Some ids) one several
    (items ∙ ap (λ w. placed id (one_or w (ids_in nat_cmp old.several.entries stamp))) (sym was))

-- the only id goes
pub only_told : (id stamp : ℕ) (old new : RowIds) → value_at old.one.entries stamp ≡ Some id → Sets stamp None old.one.entries new.one.entries
    → ((q : ℕ) → lookup (is_at (nat_cmp q)) new.several.entries ≡ cond (is_at (nat_cmp stamp) q) None (lookup (is_at (nat_cmp q)) old.several.entries)) → Changes (without id) stamp old new
only_told id stamp old new was one several =
    both_told (without id) stamp old new None None one several
    (sym (ap (λ w. without id (one_or w (ids_in nat_cmp old.several.entries stamp))) was ∙ ap (λ b. cond b [] (id ∷ [])) (eq-eqb id id refl)))

-- the first id
pub first_told : (id stamp : ℕ) (old new : RowIds) → value_at old.one.entries stamp ≡ None → ids_in nat_cmp old.several.entries stamp ≡ [] → Sets stamp (Some id) old.one.entries new.one.entries
    → new.several ≡ old.several → Changes (placed id) stamp old new
first_told id stamp old new was none one same =
    told (placed id) stamp old new
    (ap (λ w. one_or w (ids_in nat_cmp new.several.entries stamp)) (set_here stamp (Some id) (value_at old.one.entries) (value_at new.one.entries) one)
    ∙ sym (ap (λ w. placed id (one_or w (ids_in nat_cmp old.several.entries stamp))) was ∙ ap (placed id) none))
    (λ q apart.
    ap (λ w. one_or w (ids_in nat_cmp new.several.entries q)) (set_away stamp (Some id) (value_at old.one.entries) (value_at new.one.entries) one q apart)
    ∙ ap (λ m. one_or (value_at old.one.entries q) (ids_in nat_cmp m.entries q)) same)

-- those of a stamp that has several
pub several_told : (change : List ℕ → List ℕ) (stamp : ℕ) (old new : RowIds) → value_at old.one.entries stamp ≡ None → new.one ≡ old.one
    → ((q : ℕ) → ids_in nat_cmp new.several.entries q ≡ cond (is_at (nat_cmp stamp) q) (change (ids_in nat_cmp old.several.entries stamp)) (ids_in nat_cmp old.several.entries q)) → Changes change stamp old new
several_told change stamp old new was same ids =
    told change stamp old new
    (ap (λ m. one_or (value_at m.entries stamp) (ids_in nat_cmp new.several.entries stamp)) same
    ∙ ap (λ w. one_or w (ids_in nat_cmp new.several.entries stamp)) was
    ∙ ids stamp ∙ ap (λ b. cond b (change (ids_in nat_cmp old.several.entries stamp)) (ids_in nat_cmp old.several.entries stamp)) (at_here stamp)
    ∙ ap (λ w. change (one_or w (ids_in nat_cmp old.several.entries stamp))) (sym was))
    (λ q apart.
    ap (λ m. one_or (value_at m.entries q) (ids_in nat_cmp new.several.entries q)) same
    ∙ ap (one_or (value_at old.one.entries q)) (ids q ∙ ap (λ b. cond b (change (ids_in nat_cmp old.several.entries stamp)) (ids_in nat_cmp old.several.entries q)) (at_away stamp q apart)))
