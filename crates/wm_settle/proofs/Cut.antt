-- One mark more takes what it covers of what is left.
use Rattle.std.proofs.Common.{◌≡◌, ℕ, nat_lt, List, [], ◌∷◌, ◌++◌, Option, None, Some, refl, sym, ap, ◌∙◌}
use Rattle.std.proofs.lemmas.List.Elements.{filter-append, filter_map-append}
use Rattle.std.specs.List.{cons_option, filter_map, flat_map}
use Rattle.std.specs.Option.{option_and_then, option_to_list}
use Rattle.wm_index.specs.Kinds.{kind_at}
use Rattle.wm_spec.specs.Records.{record_at}
use Rattle.wm_spec.specs.declared.record.Record.{Record}
use Rattle.wm_spec.specs.declared.record.piece.PieceRecord.{PieceRecord}
use Rattle.wm_spec.specs.declared.record.stored.Stored.{Stored}
use Rattle.wm_state.specs.Drawing.{left_by}
use Rattle.wm_append.specs.Views.{View}
use Rattle.wm_settled.specs.Settling.{cut, greater}

cut-append : (xs ys ps : List PieceRecord) → cut (xs ++ ys) ps ≡ cut ys (cut xs ps)
cut-append [] ys ps = refl
cut-append (x ∷ xs) ys ps = cut-append xs ys (flat_map (left_by x) ps)

kind-push : (view : View) (ss : List Stored) (ids : List ℕ) (id : ℕ) → kind_at view ss (ids ++ id ∷ []) ≡ kind_at view ss ids ++ option_to_list (option_and_then view (record_at ss id))
kind-push view ss ids id =
    ap (filter_map view) (filter_map-append (record_at ss) ids (id ∷ []))
    ∙ filter_map-append view (filter_map (record_at ss) ids) (filter_map (record_at ss) (id ∷ []))
    ∙ ap (λ xs. kind_at view ss ids ++ xs) (one (record_at ss id))
  where
    listed : (o : Option PieceRecord) → cons_option o [] ≡ option_to_list o
    listed None = refl
    listed (Some x) = refl

    one : (o : Option Record) → filter_map view (cons_option o []) ≡ option_to_list (option_and_then view o)
    one None = refl
    one (Some r) = listed (view r)

pub cut_more : (view : View) (ss : List Stored) (stamp : ℕ) (ids : List ℕ) (id : ℕ) (xs before after : List PieceRecord) → before ≡ cut (greater stamp (kind_at view ss ids)) xs
    → after ≡ cut (greater stamp (option_to_list (option_and_then view (record_at ss id)))) before → after ≡ cut (greater stamp (kind_at view ss (ids ++ id ∷ []))) xs
cut_more view ss stamp ids id xs before after was is =
    is
    ∙ ap (cut (greater stamp (option_to_list (option_and_then view (record_at ss id))))) was
    ∙ sym
    (ap (λ ys. cut (greater stamp ys) xs) (kind-push view ss ids id)
    ∙ ap (λ ys. cut ys xs) (filter-append (λ (x : PieceRecord). nat_lt stamp x.stamp) (kind_at view ss ids) (option_to_list (option_and_then view (record_at ss id))))
    ∙ cut-append (greater stamp (kind_at view ss ids)) (greater stamp (option_to_list (option_and_then view (record_at ss id)))) xs)
