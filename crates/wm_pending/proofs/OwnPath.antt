-- The walk along the versions of a workspace above the one that it sees under its own.
use Rattle.std.proofs.Common.{◌≡◌, ℕ, ◌<◌, Bool, true, false, cond, ◌||◌, ◌==◌, nat_lt, List, [], ◌∷◌, Option, None, Some, refl, sym, ap, ◌∙◌}
use Rattle.std.proofs.Math.Bool.{or_assoc}
use Rattle.std.proofs.lemmas.List.Elements.{filter_map-append}
use Rattle.std.proofs.lemmas.List.Folds.{list_any-append}
use Rattle.std.proofs.lemmas.Bool.{ltb-false, ltb-true, or_parts}
use Rattle.std.specs.List.{cons_option, filter_map}
use Rattle.std.specs.Option.{option_and_then, option_or, option_to_list}
use Rattle.wm_base.proofs.Plain.{option_or-none, option_or_assoc}
use Rattle.wm_base.specs.declared.instant.TheConstants.{END}
use Rattle.wm_base.specs.declared.value.Value.{Value}
use Rattle.wm_graph.specs.Parts.{parts_of, as_piece, version_of}
use Rattle.wm_graph.specs.Rules.{keep_rules}
use Rattle.wm_image.specs.Shown.{first_held}
use Rattle.wm_index.specs.Kinds.{kind_at}
use Rattle.wm_index.specs.Sought.{PieceAt, PiecesIn, ids_with, is_sought}
use Rattle.wm_period.proofs.Order.{held_at-past}
use Rattle.wm_period.specs.Pieces.{Between, Held, IsJoined, held_at}
use Rattle.wm_period.specs.declared.piece.Piece.{Piece}
use Rattle.wm_spec.specs.Lists.{Cell}
use Rattle.wm_spec.specs.Records.{record_at}
use Rattle.wm_spec.specs.declared.record.Record.{Record}
use Rattle.wm_spec.specs.declared.record.piece.PieceRecord.{PieceRecord}
use Rattle.wm_spec.specs.declared.record.space.Space.{Space}
use Rattle.wm_spec.specs.declared.record.stored.Stored.{Stored}
use Rattle.wm_spec.specs.declared.record.version.Version.{Version}
use Rattle.wm_state.specs.ById.{Ascend}
use Rattle.wm_state.specs.Copied.{HoldsKey}
use Rattle.wm_state.specs.Standing.{latest, newest_first, seen_above, stored_at}
use Rattle.wm_telling.specs.Telling.{own_held}
use Rattle.wm_version_rows.proofs.Late.{nothing_late}
use Rattle.wm_pending.proofs.Above.{own_ends, own_goes_on, own_nowhere}
use Rattle.wm_pending.proofs.Stored.{stored_by_key, stored_nowhere}
use Rattle.wm_pending.specs.Keys.{Place, has_piece_of}

-- ---- the pieces of one key

-- what a version has is laid under what was laid before
pub laid_more : (ss : List Stored) (a : Space) (n : ℕ) (v : Version) (ids : List ℕ) (c : Cell) (old new own : Option Held) → keep_rules (parts_of ss) ≡ true → Ascend ss
    → Some v ≡ cond (n == a.base_version) None (version_of (parts_of ss).versions n) → ids ≡ ids_with (is_sought (PieceAt c.table c.key n)) ss
    → new ≡ option_or old (first_held (kind_at as_piece ss ids) n c.time) → option_or old (seen_above (parts_of ss) a.base_version n c) ≡ own
    → option_or new (seen_above (parts_of ss) a.base_version v.parent c) ≡ own
laid_more ss a n v ids c old new own rules up there are laid so =
    let goes = (own_goes_on (parts_of ss) a.base_version n v rules there).0 c in
    ap (λ o. option_or o (seen_above (parts_of ss) a.base_version v.parent c)) (laid ∙ ap (option_or old) (stored_by_key ss ids n c up are))
    ∙ option_or_assoc old (stored_at (parts_of ss).pieces n c) (seen_above (parts_of ss) a.base_version v.parent c)
    ∙ ap (option_or old) (sym goes)
    ∙ so

-- what was laid is all where no version is left
pub laid_all : (ss : List Stored) (a : Space) (n table : ℕ) (key : List Value) (laid ps : List Piece) → keep_rules (parts_of ss) ≡ true → None ≡ cond (n == a.base_version) None (version_of (parts_of ss).versions n)
    → ((t : ℕ) → t < END → option_or (held_at laid t) (seen_above (parts_of ss) a.base_version n (record { table = table; key = key; time = t })) ≡ own_held (parts_of ss) a (record { table = table; key = key; time = t }))
    → ((t : ℕ) → held_at ps t ≡ held_at laid t) → Between 0 ps END → IsJoined ps → HoldsKey (own_held (parts_of ss) a) (record { table = table; key = key; pieces = ps })
laid_all ss a n table key laid ps rules ends so same lie joined = record { lie = lie; joined = joined; holds = λ t. by_time t (nat_lt t END) refl }
  where
    at : ℕ → Cell
    at t = record { table = table; key = key; time = t }

    by_time : (t : ℕ) (b : Bool) → nat_lt t END ≡ b → held_at ps t ≡ own_held (parts_of ss) a (at t)
    by_time t true e =
        same t
        ∙ sym (option_or-none (held_at laid t))
        ∙ sym (ap (option_or (held_at laid t)) (own_ends (parts_of ss) a.base_version n (at t) rules ends))
        ∙ so t (ltb-true t END e)
    by_time t false e =
        held_at-past 0 ps END t lie (ltb-false t END e)
        ∙ sym (own_nowhere (parts_of ss).pieces (newest_first (parts_of ss).versions) a.base_version (latest (parts_of ss) a.number) (at t) (λ w. nothing_late (parts_of ss) w (at t) rules (ltb-false t END e)))

-- ---- the keys of all pieces

one_record : (ss : List Stored) (id : ℕ) → kind_at as_piece ss (id ∷ []) ≡ option_to_list (option_and_then as_piece (record_at ss id))
one_record ss id = by_record (record_at ss id)
  where
    by_kind : (o : Option PieceRecord) → cons_option o [] ≡ option_to_list o
    by_kind None = refl
    by_kind (Some x) = refl

    by_record : (o : Option Record) → filter_map as_piece (cons_option o []) ≡ option_to_list (option_and_then as_piece o)
    by_record None = refl
    by_record (Some r) = by_kind (as_piece r)

-- the first of the ids that are left is added
pub added_more : (ss : List Stored) (id : ℕ) (left rest : List ℕ) (found : Option Record) (q : Place) (old new all : Bool) → left ≡ id ∷ rest → found ≡ record_at ss id
    → new ≡ (old || has_piece_of q (option_to_list (option_and_then as_piece found))) → (old || has_piece_of q (kind_at as_piece ss left)) ≡ all → (new || has_piece_of q (kind_at as_piece ss rest)) ≡ all
added_more ss id left rest found q old new all steps is more so =
    ap (λ b. b || has_piece_of q (kind_at as_piece ss rest)) (more ∙ ap (λ o. old || has_piece_of q (option_to_list (option_and_then as_piece o))) is)
    ∙ or_assoc old (has_piece_of q (option_to_list (option_and_then as_piece (record_at ss id)))) (has_piece_of q (kind_at as_piece ss rest))
    ∙ ap (λ b. old || b) (
    ap (λ xs. has_piece_of q xs || has_piece_of q (kind_at as_piece ss rest)) (sym (one_record ss id))
    ∙ sym (list_any-append _ (kind_at as_piece ss (id ∷ [])) (kind_at as_piece ss rest))
    ∙ ap (has_piece_of q) (sym (
    ap (filter_map as_piece) (filter_map-append (record_at ss) (id ∷ []) rest)
    ∙ filter_map-append as_piece (filter_map (record_at ss) (id ∷ [])) (filter_map (record_at ss) rest))))
    ∙ ap (λ xs. old || has_piece_of q (kind_at as_piece ss xs)) (sym steps)
    ∙ so

-- a key that a version has no piece of has what is held above its parent
pub keys_more : (ss : List Stored) (a : Space) (n : ℕ) (v : Version) (ids : List ℕ) (c : Cell) (old new : Bool) (own : Option Held) → keep_rules (parts_of ss) ≡ true → Ascend ss
    → Some v ≡ cond (n == a.base_version) None (version_of (parts_of ss).versions n) → ids ≡ ids_with (is_sought (PiecesIn n)) ss
    → new ≡ (old || has_piece_of (c.table, c.key) (kind_at as_piece ss ids)) → (old ≡ false → own ≡ seen_above (parts_of ss) a.base_version n c)
    → new ≡ false → own ≡ seen_above (parts_of ss) a.base_version v.parent c
keys_more ss a n v ids c old new own rules up there are more so out =
    let two = or_parts old (has_piece_of (c.table, c.key) (kind_at as_piece ss ids)) (sym more ∙ out) in
    so two.0
    ∙ (own_goes_on (parts_of ss) a.base_version n v rules there).0 c
    ∙ ap (λ o. option_or o (seen_above (parts_of ss) a.base_version v.parent c)) (stored_nowhere ss ids n c up are two.1)
