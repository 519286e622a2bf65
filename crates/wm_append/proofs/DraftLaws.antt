-- What drafts come to, told of results.
use Rattle.std.proofs.Common.{◌≡◌, ℕ, ◌==◌, ◌&&◌, Bool, true, false, not, List, [], ◌∷◌, ◌++◌, append-nil, Option, None, Some, Result, Ok, Err, IfOk, refl, sym, ap, subst, ◌∙◌}
use Rattle.std.proofs.Math.Bool.{and-false, not-not}
use Rattle.std.proofs.lemmas.Option.{none-some}
use Rattle.std.specs.List.{filter, flat_map}
use Rattle.std.specs.Bool.{then_some}
use Rattle.std.specs.Option.{option_map_or}
use Rattle.std.specs.Ordering.{is_eq}
use Rattle.wm_base.specs.Key.{key_order}
use Rattle.wm_base.specs.declared.memory.Memory.{Memory}
use Rattle.wm_base.specs.declared.value.Value.{Value}
use Rattle.wm_spec.specs.Records.{record_at}
use Rattle.wm_spec.specs.declared.record.Record.{Record}
use Rattle.wm_spec.specs.declared.record.Record.TheVariants as records
use Rattle.wm_spec.specs.declared.record.piece.PieceRecord.{PieceRecord}
use Rattle.wm_spec.specs.declared.record.stored.Stored.{Stored}
use Rattle.wm_spec.specs.declared.record.trace.Trace.{Trace}
use Rattle.wm_graph.specs.Rules.{as_drawn}
use Rattle.wm_state.specs.Batches.{is_out}
use Rattle.wm_state.specs.ById.{Ascend}
use Rattle.wm_state.specs.Drawing.{left_by}
use Rattle.wm_state.specs.Touching.{drawn_as}
use Rattle.wm_index.specs.Kinds.{kind_at}
use Rattle.wm_index.specs.Sought.{Sought, ids_with, is_sought}
use Rattle.wm_changes.proofs.Dropping.{filter-with}
use Rattle.wm_append.proofs.Few.{few_more}
use Rattle.wm_append.specs.Layers.{sought_in, view_of}
use Rattle.wm_append.specs.Redraw.{AreFew, IsDraft, IsRedrawn, met, unmet}
use Rattle.wm_append.specs.Views.{IsPlaced, View, has_version, ids_of_key, keeps_in}
use Rattle.wm_append.specs.declared.redraw.Draft.{Draft}
use Rattle.wm_append.specs.declared.redraw.Redrawn.{Redrawn}
use Rattle.wm_append.specs.declared.redraw.layer.Layer.{Layer}
use Rattle.wm_append.specs.declared.redraw.layer.Layer.TheVariants as layers

-- ---- the ids of a key

-- a touch or a mark that is drawn is of the table and the key of what it is drawn as
trace_placed : (n : ℕ) (y : Trace) (table : ℕ) (key : List Value) (x : PieceRecord) → drawn_as n y ≡ Some x
    → ((y.cells.table == table) && is_eq (key_order y.cells.key key)) ≡ ((x.cells.table == table) && is_eq (key_order x.cells.key key))
trace_placed n y table key x is = by_space (y.space == n) is
  where
    by_space : (b : Bool) → then_some b (as_drawn y) ≡ Some x → ((y.cells.table == table) && is_eq (key_order y.cells.key key)) ≡ ((x.cells.table == table) && is_eq (key_order x.cells.key key))
    by_space true e = ap (λ (z : PieceRecord). (z.cells.table == table) && is_eq (key_order z.cells.key key)) (same e)
      where
        same : Some (as_drawn y) ≡ Some x → as_drawn y ≡ x
        same h = cc
    by_space false e = absurd (none-some x e)

turned : (a b : Bool) → (a && b) ≡ (b && a)
turned true true = refl
turned true false = refl
turned false true = refl
turned false false = refl

-- those that are drawn for a key as pieces of a version are found for it
pub layer_placed : (layer : Layer) (version table : ℕ) (key : List Value) → IsPlaced (view_of layer) (sought_in layer version table key) version table key
layer_placed layers.Pieces version table key (records.Piece y) x is =
    ap (λ (z : PieceRecord). ((z.cells.table == table) && (is_eq (key_order z.cells.key key) && (z.version == version))) && (x.version == version)) (same is)
    ∙ once (x.cells.table == table) (is_eq (key_order x.cells.key key)) (x.version == version)
  where
    same : Some y ≡ Some x → y ≡ x
    same e = cc

    once : (a b v : Bool) → ((a && (b && v)) && v) ≡ (v && (a && b))
    once true true true = refl
    once true true false = refl
    once true false true = refl
    once true false false = refl
    once false b true = refl
    once false b false = refl
layer_placed layers.Pieces version table key _ x is = absurd (none-some x is)
layer_placed (layers.Touches n) version table key (records.Touch y) x is =
    turned ((y.cells.table == table) && is_eq (key_order y.cells.key key)) (x.version == version) ∙ ap (λ b. (x.version == version) && b) (trace_placed n y table key x is)
layer_placed (layers.Touches n) version table key _ x is = absurd (none-some x is)
layer_placed (layers.Marks n) version table key (records.Mark y) x is =
    turned ((y.cells.table == table) && is_eq (key_order y.cells.key key)) (x.version == version) ∙ ap (λ b. (x.version == version) && b) (trace_placed n y table key x is)
layer_placed (layers.Marks n) version table key _ x is = absurd (none-some x is)

own_test : (view : View) (q : Sought) (version table : ℕ) (key : List Value) → IsPlaced view q version table key → (r : Record) → not (keeps_in view (is_out version table key) r) ≡ (is_sought q r && has_version view version (Some r))
own_test view q version table key placed r = by_view (view r) refl
  where
    by_view : (o : Option PieceRecord) → view r ≡ o → not (option_map_or (is_out version table key) o true) ≡ (is_sought q r && option_map_or (λ (x : PieceRecord). x.version == version) o false)
    by_view None none = sym (and-false (is_sought q r))
    by_view (Some x) some = not-not ((x.version == version) && ((x.cells.table == table) && is_eq (key_order x.cells.key key))) ∙ sym (placed r x some)

pub ids_told : (ss : List Stored) → Ascend ss → (layer : Layer) (version table : ℕ) (key : List Value) (ids own : List ℕ) → ids ≡ ids_with (is_sought (sought_in layer version table key)) ss
    → own ≡ filter (λ id. has_version (view_of layer) version (record_at ss id)) ids → own ≡ ids_of_key (view_of layer) ss version table key
ids_told ss sorted layer version table key ids own are told =
    told
    ∙ ap (filter (λ id. has_version (view_of layer) version (record_at ss id))) are
    ∙ filter-with (has_version (view_of layer) version) (is_sought (sought_in layer version table key)) (λ r. not (keeps_in (view_of layer) (is_out version table key) r))
    (own_test (view_of layer) (sought_in layer version table key) version table key (layer_placed layer version table key)) ss sorted

-- ---- drafts

-- some new pieces are drawn in a draft
abbrev pub Draws : View → List Stored → ℕ → List PieceRecord → Draft → Type 0
Draws view ss version news d = IsDraft view ss version news d.dropped.items d.left.items d.finished.items d.hand.items

-- what is laid over a draft is a draft with one piece more
pub draft_laid : (view : View) (ss : List Stored) (version : ℕ) (old mid : Draft) (new : PieceRecord) (r : Result Draft Memory)
    → ((news : List PieceRecord) → Draws view ss version news old
    → IsDraft view ss version (news ++ new ∷ []) (mid.dropped.items ++ met view ss new mid.left.items) (unmet view ss new mid.left.items) mid.finished.items
    (new ∷ flat_map (left_by new) (mid.hand.items ++ kind_at view ss (met view ss new mid.left.items))))
    → IfOk r (λ laid. laid.dropped.items ≡ mid.dropped.items ++ met view ss new mid.left.items) → IfOk r (λ laid. laid.left.items ≡ unmet view ss new mid.left.items) → IfOk r (λ laid. laid.finished.items ≡ mid.finished.items)
    → IfOk r (λ laid. laid.hand.items ≡ new ∷ flat_map (left_by new) (mid.hand.items ++ kind_at view ss (met view ss new mid.left.items)))
    → IfOk r (λ drawn. (news : List PieceRecord) → Draws view ss version news old → Draws view ss version (news ++ new ∷ []) drawn)
draft_laid view ss version old mid new (Ok d) step dropped left finished hand = λ news so.
    subst (λ (xs : List PieceRecord). IsDraft view ss version (news ++ new ∷ []) d.dropped.items d.left.items d.finished.items xs) (sym hand)
    (subst (λ (xs : List PieceRecord). IsDraft view ss version (news ++ new ∷ []) d.dropped.items d.left.items xs over) (sym finished)
    (subst (λ (ids : List ℕ). IsDraft view ss version (news ++ new ∷ []) d.dropped.items ids mid.finished.items over) (sym left)
    (subst (λ (ids : List ℕ). IsDraft view ss version (news ++ new ∷ []) ids (unmet view ss new mid.left.items) mid.finished.items over) (sym dropped) (step news so))))
  where
    over : List PieceRecord
    over = new ∷ flat_map (left_by new) (mid.hand.items ++ kind_at view ss (met view ss new mid.left.items))
draft_laid view ss version old mid new (Err e) step dropped left finished hand = tt

-- and where the draft is of few pieces this one is so too
pub draft_few : (view : View) (ss : List Stored) (version : ℕ) (old mid : Draft) (new : PieceRecord) (r : Result Draft Memory)
    → ((news : List PieceRecord) → Draws view ss version news old
    → IsDraft view ss version (news ++ new ∷ []) (mid.dropped.items ++ met view ss new mid.left.items) (unmet view ss new mid.left.items) mid.finished.items
    (new ∷ flat_map (left_by new) (mid.hand.items ++ kind_at view ss (met view ss new mid.left.items))))
    → ((news : List PieceRecord) → AreFew news old.dropped.items (old.finished.items ++ old.hand.items) → AreFew news mid.dropped.items (mid.finished.items ++ mid.hand.items))
    → IfOk r (λ laid. laid.dropped.items ≡ mid.dropped.items ++ met view ss new mid.left.items) → IfOk r (λ laid. laid.finished.items ≡ mid.finished.items)
    → IfOk r (λ laid. laid.hand.items ≡ new ∷ flat_map (left_by new) (mid.hand.items ++ kind_at view ss (met view ss new mid.left.items)))
    → IfOk r (λ drawn. (news : List PieceRecord) → Draws view ss version news old → AreFew news old.dropped.items (old.finished.items ++ old.hand.items) → AreFew (news ++ new ∷ []) drawn.dropped.items (drawn.finished.items ++ drawn.hand.items))
draft_few view ss version old mid new (Ok d) step begun dropped finished hand = λ news so few.
    subst (λ (xs : List PieceRecord). AreFew (news ++ new ∷ []) d.dropped.items (d.finished.items ++ xs)) (sym hand)
    (subst (λ (xs : List PieceRecord). AreFew (news ++ new ∷ []) d.dropped.items (xs ++ over)) (sym finished)
    (subst (λ (ids : List ℕ). AreFew (news ++ new ∷ []) ids (mid.finished.items ++ over)) (sym dropped)
    (few_more view ss news mid.dropped.items (met view ss new mid.left.items) mid.finished.items mid.hand.items new (step news so).drawn.are.differ (begun news few))))
  where
    over : List PieceRecord
    over = new ∷ flat_map (left_by new) (mid.hand.items ++ kind_at view ss (met view ss new mid.left.items))
draft_few view ss version old mid new (Err e) step begun dropped finished hand = tt

-- a key that is begun has none at hand
pub begun_few : (old mid : Draft) → mid.dropped.items ≡ old.dropped.items → mid.finished.items ≡ old.finished.items ++ old.hand.items → mid.hand.items ≡ [] → (news : List PieceRecord)
    → AreFew news old.dropped.items (old.finished.items ++ old.hand.items) → AreFew news mid.dropped.items (mid.finished.items ++ mid.hand.items)
begun_few old mid dropped finished hand news few =
    subst (λ (xs : List PieceRecord). AreFew news mid.dropped.items (mid.finished.items ++ xs)) (sym hand)
    (subst (λ (xs : List PieceRecord). AreFew news mid.dropped.items xs) (sym (append-nil mid.finished.items))
    (subst (λ (xs : List PieceRecord). AreFew news mid.dropped.items xs) (sym finished) (subst (λ (ids : List ℕ). AreFew news ids (old.finished.items ++ old.hand.items)) (sym dropped) few)))

-- a draft of all is what is redrawn
pub draft_ended : (view : View) (ss : List Stored) (news : List PieceRecord) (old : Draft) (r : Result Redrawn Memory) → IsRedrawn view ss news old.dropped.items (old.finished.items ++ old.hand.items)
    → IfOk r (λ redrawn. redrawn.dropped.items ≡ old.dropped.items) → IfOk r (λ redrawn. redrawn.drawn.items ≡ old.finished.items ++ old.hand.items)
    → IfOk r (λ redrawn. IsRedrawn view ss news redrawn.dropped.items redrawn.drawn.items)
draft_ended view ss news old (Ok d) so dropped drawn =
    subst (λ (xs : List PieceRecord). IsRedrawn view ss news d.dropped.items xs) (sym drawn) (subst (λ (ids : List ℕ). IsRedrawn view ss news ids (old.finished.items ++ old.hand.items)) (sym dropped) so)
draft_ended view ss news old (Err e) so dropped drawn = tt

-- and where the draft is of few pieces it is so too
pub few_ended : (news : List PieceRecord) (old : Draft) (r : Result Redrawn Memory) → AreFew news old.dropped.items (old.finished.items ++ old.hand.items) → IfOk r (λ redrawn. redrawn.dropped.items ≡ old.dropped.items)
    → IfOk r (λ redrawn. redrawn.drawn.items ≡ old.finished.items ++ old.hand.items) → IfOk r (λ redrawn. AreFew news redrawn.dropped.items redrawn.drawn.items)
few_ended news old (Ok d) few dropped drawn =
    subst (λ (xs : List PieceRecord). AreFew news d.dropped.items xs) (sym drawn) (subst (λ (ids : List ℕ). AreFew news ids (old.finished.items ++ old.hand.items)) (sym dropped) few)
few_ended news old (Err e) few dropped drawn = tt
