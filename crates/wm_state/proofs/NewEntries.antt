-- Entries of a list as ones that are to come, and these as entries of a list: each way back is the way there again; and marks so.
use Rattle.std.proofs.Common.{◌≡◌, ℕ, List, [], ◌∷◌, map, Option, None, Some, refl, ap, ◌∙◌}
use Rattle.std.specs.Option.{option_map}
use Rattle.wm_base.specs.declared.row.Row.{Row}
use Rattle.wm_base.specs.declared.value.Value.{Value}
use Rattle.wm_spec.specs.Lists.{Entry}
use Rattle.wm_state.specs.Editing.{entry_of, new_entry, new_mark, row_value, settled_by}
use Rattle.wm_state.specs.declared.edit.NewEntry.{NewEntry}
use Rattle.wm_state.specs.declared.edit.NewMark.{NewMark}

-- what a way back undoes of one it undoes of a list
back_all : {A B : Type 0} (there : A → B) (back : B → A) → ((x : A) → back (there x) ≡ x) → (xs : List A) → map back (map there xs) ≡ xs
back_all there back is [] = refl
back_all there back is (x ∷ xs) = ap (λ y. y ∷ map back (map there xs)) (is x) ∙ ap (λ ys. x ∷ ys) (back_all there back is xs)

values_row : (row : Option Row) → option_map row_value (option_map (λ (r : Row). r.values) row) ≡ row
values_row None = refl
values_row (Some row) = refl

row_values : (row : Option (List Value)) → option_map (λ (r : Row). r.values) (option_map row_value row) ≡ row
row_values None = refl
row_values (Some values) = refl

pub entry_new : (e : Entry) → entry_of (new_entry e) ≡ e
entry_new e = ap (λ (row : Option Row). record e { row = row }) (values_row e.row)

pub new_entry_of : (e : NewEntry) → new_entry (entry_of e) ≡ e
new_entry_of e = ap (λ (row : Option (List Value)). record e { row = row }) (row_values e.row)

pub entries_new : (es : List Entry) → map entry_of (map new_entry es) ≡ es
entries_new es = back_all new_entry entry_of entry_new es

pub new_entries : (es : List NewEntry) → map new_entry (map entry_of es) ≡ es
new_entries es = back_all entry_of new_entry new_entry_of es

-- a mark that was made at a place
pub new_marks : (place : ℕ) (ms : List NewMark) → map new_mark (map (settled_by place) ms) ≡ ms
new_marks place ms = back_all (settled_by place) new_mark (λ m. refl) ms
