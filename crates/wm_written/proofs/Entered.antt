-- What entries say at a cell is what their pieces say there.
use Rattle.std.proofs.Common.{◌≡◌, ◌≢◌, ℕ, ◌==◌, Bool, true, false, ◌&&◌, cond, List, [], ◌∷◌, Option, Some, None, refl, sym, ap, ◌∙◌, ◌⊎◌, inl, inr}
use Rattle.std.proofs.lemmas.Bool.{cases_eq, eq-eqb, ne_eqb}
use Rattle.std.specs.Bool.{then_some}
use Rattle.std.specs.Option.{option_or, option_map}
use Rattle.wm_spec.specs.Lists.{Entry, Cell, Told, told, told_of, covers}
use Rattle.wm_state.specs.Drawing.{stored_last}
use Rattle.wm_state.specs.Entries.{piece_of, pieces_of}
use Rattle.wm_state.specs.Standing.{held_of, held_by}

-- in their version the pieces say what the entries do
told-stored : (version : ℕ) (es : List Entry) (c : Cell) → option_map held_of (told es c) ≡ stored_last (pieces_of version es) version c
told-stored version [] c = refl
told-stored version (e ∷ es) c =
    over (told es c) (covers e c) (told_of e)
    ∙ ap (λ o. option_or o (then_some (covers e c) (held_of (told_of e)))) (told-stored version es c)
    ∙ ap (λ b. option_or (stored_last (pieces_of version es) version c) (then_some (b && covers e c) (held_by (piece_of version e)))) (sym (eq-eqb version version refl))
  where
    over : (o : Option Told) (b : Bool) (t : Told) → option_map held_of (option_or o (then_some b t)) ≡ option_or (option_map held_of o) (then_some b (held_of t))
    over None true t = refl
    over None false t = refl
    over (Some x) b t = refl

-- in any other version they say nothing
stored-elsewhere : (version v : ℕ) (es : List Entry) (c : Cell) → (version == v) ≡ false → stored_last (pieces_of version es) v c ≡ None
stored-elsewhere version v [] c other = refl
stored-elsewhere version v (e ∷ es) c other = rw (stored-elsewhere version v es c other, other) refl

-- both
pub stored-entries : (version v : ℕ) (es : List Entry) (c : Cell) → stored_last (pieces_of version es) v c ≡ cond (v == version) (option_map held_of (told es c)) None
stored-entries version v es c = by_version (cases_eq v version)
  where
    by_version : (v ≡ version) ⊎ (v ≢ version) → stored_last (pieces_of version es) v c ≡ cond (v == version) (option_map held_of (told es c)) None
    by_version (inl same) = rw (eq-eqb v version same) (ap (λ n. stored_last (pieces_of version es) n c) same ∙ sym (told-stored version es c))
    by_version (inr other) = rw (ne_eqb v version other) (stored-elsewhere version v es c (ne_eqb version v (λ same. other (sym same))))
