-- The stretches that are made piece by piece are those of the pieces.
use Rattle.std.proofs.Common.{◌≡◌, ℕ, ◌≤◌, Bool, true, false, if◌then◌else◌, List, [], ◌∷◌, ◌++◌, map, suc, ◌-◌, length, take, drop, get_or, Option, Some, None, refl, sym, ap, ◌∙◌, append_assoc, arith}
use Rattle.std.proofs.lemmas.List.{map-append, take_all}
use Rattle.std.proofs.lemmas.List.Elements.{filter_map-append}
use Rattle.std.specs.List.{cons_option, filter_map}
use Rattle.std.specs.Option.{option_map, option_to_list}
use Rattle.wm_base.specs.Period.{Span}
use Rattle.wm_base.specs.declared.row.Row.{Row}
use Rattle.wm_base.specs.declared.value.Value.{Value}
use Rattle.wm_graph.specs.Parts.{Parts}
use Rattle.wm_period.specs.declared.piece.Piece.{Piece}
use Rattle.wm_spec.specs.Stretches.{Stretch}
use Rattle.wm_state.specs.Listing.{row_shown_with, seen_row, span_on}
use Rattle.wm_version_rows.proofs.Spans.{earlier, meets, span, spans}
use Rattle.wm_version_rows.specs.Listing.{row_under, shown_on}
use Rattle.wm_version_rows.specs.Standing.{ending, first_from, from_behind, goes_on, stretch_ending, stretch_of, stretches_from, stretches_on}

-- ---- the stretches

-- the first piece has a row
abbrev StandsFirst : List Piece → Type 0
StandsFirst [] = Unit {0}
StandsFirst (p ∷ ps) = p.gone ≡ false

stands_first : (p : Piece) (ps : List Piece) → goes_on p ps ≡ true → StandsFirst ps
stands_first p [] e = tt
stands_first p (q ∷ qs) e = (meets p q qs e).stands

earlier-twice : (from middle : ℕ) (ss : List Stretch) → earlier from (earlier middle ss) ≡ earlier from ss
earlier-twice from middle [] = refl
earlier-twice from middle (s ∷ ss) = refl

-- what a function makes of pieces: the stretches; where the row of the first began earlier, with the first of them
-- beginning there
record Makes (ps : List Piece) : Type 0 where
  whole : stretches_on ps ≡ spans ps
  begun : (from : ℕ) → StandsFirst ps → stretches_from from ps ≡ earlier from (spans ps)

-- a row that stands on a piece and began at an instant
begun_at : (p : Piece) (ps : List Piece) (from : ℕ) → Makes ps → p.gone ≡ false → stretches_from from (p ∷ ps) ≡ earlier from (spans (p ∷ ps))
begun_at p ps from rest stands = rw stands (by_goes (goes_on p ps) refl)
  where
    by_goes : (b : Bool) → goes_on p ps ≡ b
        → option_to_list (option_map (stretch_of p.stamp.number) (let nothing : Option Span = None in let whole : Span = record { from = from; till = p.period.till } in if b then nothing else Some whole))
        ++ stretches_from (if b then from else first_from ps) ps
        ≡ earlier from (if b then earlier p.period.from (spans ps) else span p ∷ spans ps)
    by_goes true e = rest.begun from (stands_first p ps e) ∙ sym (earlier-twice from p.period.from (spans ps))
    by_goes false e = ap (λ ss. stretch_of p.stamp.number (let whole : Span = record { from = from; till = p.period.till } in whole) ∷ ss) rest.whole

own_from : (p : Piece) (ps : List Piece) → p.gone ≡ false → earlier p.period.from (spans (p ∷ ps)) ≡ spans (p ∷ ps)
own_from p ps stands = rw stands (by_goes (goes_on p ps))
  where
    by_goes : (b : Bool) → earlier p.period.from (if b then earlier p.period.from (spans ps) else span p ∷ spans ps) ≡ (if b then earlier p.period.from (spans ps) else span p ∷ spans ps)
    by_goes true = earlier-twice p.period.from p.period.from (spans ps)
    by_goes false = refl

makes : (ps : List Piece) → Makes ps
makes [] = record { whole = refl; begun = λ from first. refl }
makes (p ∷ ps) = record { whole = by_gone p.gone refl (makes ps); begun = λ from stands. begun_at p ps from (makes ps) stands }
  where
    by_gone : (b : Bool) → p.gone ≡ b → Makes ps → stretches_on (p ∷ ps) ≡ spans (p ∷ ps)
    by_gone true gone rest = rw gone rest.whole
    by_gone false stands rest = begun_at p ps p.period.from rest stands ∙ own_from p ps stands

pub stretches_are : (ps : List Piece) → stretches_on ps ≡ spans ps
stretches_are ps = (makes ps).whole

-- ---- where their rows begin

-- ---- what is made of them

-- what is shown of stretches that belong to one key
pub shown_keyed : (p : Parts) (valid : Bool) (within : Span) (key : List Value) (ss : List Stretch) → shown_on p valid within ss ≡ filter_map (row_shown_with p valid within) (map (λ s. (key, s)) ss)
shown_keyed p valid within key [] = refl
shown_keyed p valid within key (s ∷ ss) = ap (cons_option (seen_row valid within s (row_under p s.stamp))) (shown_keyed p valid within key ss)

-- some more were gone over
pub shown_more : (p : Parts) (valid : Bool) (within : Span) (ending rest : List Stretch) (all done new : List Row) → done ++ shown_on p valid within (ending ++ rest) ≡ all → new ≡ done ++ shown_on p valid within ending
    → new ++ shown_on p valid within rest ≡ all
shown_more p valid within ending rest all done new so more =
    ap (λ rows. rows ++ shown_on p valid within rest) more
    ∙ append_assoc done (shown_on p valid within ending) (shown_on p valid within rest)
    ∙ ap (λ rows. done ++ rows) (sym (filter_map-append (λ (s : Stretch). seen_row valid within s (row_under p s.stamp)) ending rest))
    ∙ so

-- a piece, and the pieces behind it, as the code takes them off the front
pub taken_off : (left : List Piece) (piece : Piece) → 1 ≤ length left → piece ≡ get_or left 0 piece → left ≡ piece ∷ take (length left - 1) (drop 1 left)
taken_off [] piece some is = absurd (omega arith)
taken_off (p ∷ ps) piece some is = ap (λ (q : Piece). q ∷ ps) (sym is) ∙ ap (λ (qs : List Piece). piece ∷ qs) (sym (all_taken ps))
  where
    all_taken : (ps : List Piece) → take (suc (length ps) - 1) ps ≡ ps
    all_taken ps = take_all (suc (length ps) - 1) ps (omega arith)

-- a piece more was gone over
pub gone_over : (p : Parts) (valid : Bool) (within : Span) (from next : ℕ) (piece : Piece) (left : List Piece) (all done new : List Row) → 1 ≤ length left → piece ≡ get_or left 0 piece
    → next ≡ from_behind from piece (take (length left - 1) (drop 1 left)) → done ++ shown_on p valid within (stretches_from from left) ≡ all
    → new ≡ done ++ shown_on p valid within (stretch_ending from piece (take (length left - 1) (drop 1 left))) → new ++ shown_on p valid within (stretches_from next (take (length left - 1) (drop 1 left))) ≡ all
gone_over p valid within from next piece left all done new some at is so more =
    let rest : List Piece = take (length left - 1) (drop 1 left) in
    ap (λ n. new ++ shown_on p valid within (stretches_from n rest)) is
    ∙ shown_more p valid within (stretch_ending from piece rest) (stretches_from (from_behind from piece rest) rest) all done new
    (ap (λ ps. done ++ shown_on p valid within (stretches_from from ps)) (sym (taken_off left piece some at)) ∙ so) more

-- ---- the periods alone

spans_more : (ending rest : List Stretch) (all done new : List Span) → done ++ map span_on (ending ++ rest) ≡ all → new ≡ done ++ map span_on ending → new ++ map span_on rest ≡ all
spans_more ending rest all done new so more =
    ap (λ ps. ps ++ map span_on rest) more ∙ append_assoc done (map span_on ending) (map span_on rest) ∙ ap (λ ps. done ++ ps) (sym (map-append span_on ending rest)) ∙ so

-- so where a piece more was gone over
pub spans_over : (from next : ℕ) (piece : Piece) (left : List Piece) (all done new : List Span) → 1 ≤ length left → piece ≡ get_or left 0 piece
    → next ≡ from_behind from piece (take (length left - 1) (drop 1 left)) → done ++ map span_on (stretches_from from left) ≡ all
    → new ≡ done ++ map span_on (stretch_ending from piece (take (length left - 1) (drop 1 left))) → new ++ map span_on (stretches_from next (take (length left - 1) (drop 1 left))) ≡ all
spans_over from next piece left all done new some at is so more =
    let rest : List Piece = take (length left - 1) (drop 1 left) in
    ap (λ n. new ++ map span_on (stretches_from n rest)) is
    ∙ spans_more (stretch_ending from piece rest) (stretches_from (from_behind from piece rest) rest) all done new
    (ap (λ ps. done ++ map span_on (stretches_from from ps)) (sym (taken_off left piece some at)) ∙ so) more
