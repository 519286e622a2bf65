-- A list of entries and its pieces.
use Rattle.std.proofs.Common.{◌≡◌, ◌<◌, ◌≤◌, ℕ, Bool, true, false, cond, ◌&&◌, List, [], ◌∷◌, Option, Some, None, refl, sym, ap, ◌∙◌, arith}
use Rattle.std.specs.Bool.{then_some}
use Rattle.std.specs.Option.{option_map, option_or}
use Rattle.wm_base.proofs.Plain.{option_or-none, option_or_assoc}
use Rattle.wm_base.specs.declared.instant.TheConstants.{END}
use Rattle.wm_base.specs.declared.value.Value.{Value}
use Rattle.wm_period.proofs.Order.{Between-put, held_at-put}
use Rattle.wm_period.specs.Pieces.{Held, held_at, put_in, Between}
use Rattle.wm_period.specs.declared.piece.Piece.{Piece}
use Rattle.wm_rows.specs.Entries.{piece_of, with_entries, pieces_of, held_of, HavePeriods}
use Rattle.wm_spec.specs.Lists.{Entry, Told, told, told_of, is_of, has_time}

map_or : (a b : Option Told) → option_map held_of (option_or a b) ≡ option_or (option_map held_of a) (option_map held_of b)
map_or None b = refl
map_or (Some x) b = refl

map_then : (b : Bool) (x : Told) → then_some b (held_of x) ≡ option_map held_of (then_some b x)
map_then true x = refl
map_then false x = refl

-- an entry's piece put over others, where the entry is of the key
put_told : (b : Bool) (e : Entry) (ps : List Piece) (t : ℕ) → Between 0 ps END → e.from < e.till → e.till ≤ END
    → held_at (cond b (put_in (piece_of e) ps) ps) t ≡ option_or (option_map held_of (then_some (b && has_time t e) (told_of e))) (held_at ps t)
put_told true e ps t between long ends =
    held_at-put (piece_of e) ps t between long ends ∙ ap (λ (o : Option Held). option_or o (held_at ps t)) (map_then (has_time t e) (told_of e))
put_told false e ps t between long ends = refl

put_between : (b : Bool) (e : Entry) (ps : List Piece) → Between 0 ps END → e.from < e.till → e.till ≤ END → Between 0 (cond b (put_in (piece_of e) ps) ps) END
put_between true e ps between long ends = Between-put (piece_of e) ps between long ends
put_between false e ps between long ends = between

-- over pieces that were there
held_at-entries : (table : ℕ) (key : List Value) (t : ℕ) (ps : List Piece) (es : List Entry) → HavePeriods es → Between 0 ps END
    → held_at (with_entries table key ps es) t ≡ option_or (option_map held_of (told es (record { table = table; key = key; time = t }))) (held_at ps t)
held_at-entries table key t ps [] periods between = refl
held_at-entries table key t ps (e ∷ es) periods between =
    let rest : Option Told = told es (record { table = table; key = key; time = t }) in
    let own : Option Told = then_some (is_of table key e && has_time t e) (told_of e) in
    held_at-entries table key t (cond (is_of table key e) (put_in (piece_of e) ps) ps) es periods.2 (put_between (is_of table key e) e ps between periods.0 periods.1)
    ∙ ap (option_or (option_map held_of rest)) (put_told (is_of table key e) e ps t between periods.0 periods.1)
    ∙ sym (option_or_assoc (option_map held_of rest) (option_map held_of own) (held_at ps t))
    ∙ ap (λ (o : Option Held). option_or o (held_at ps t)) (sym (map_or rest own))

pub held_at-pieces_of : (es : List Entry) (table : ℕ) (key : List Value) (t : ℕ) → HavePeriods es
    → held_at (pieces_of table key es) t ≡ option_map held_of (told es (record { table = table; key = key; time = t }))
held_at-pieces_of es table key t periods =
    held_at-entries table key t [] es periods (omega arith) ∙ option_or-none (option_map held_of (told es (record { table = table; key = key; time = t })))
