-- What is held along the path of a version.
use Rattle.std.proofs.Common.{◌≡◌, ℕ, Bool, true, false, cond, ◌==◌, List, [], ◌∷◌, Option, Some, None, refl, sym, ap, ◌∙◌}
use Rattle.std.specs.List.{filter_map, cons_option}
use Rattle.std.specs.Option.{option_or, option_and_then}
use Rattle.wm_graph.specs.Parts.{Parts, as_piece}
use Rattle.wm_period.specs.Pieces.{Held}
use Rattle.wm_spec.specs.Lists.{Cell}
use Rattle.wm_spec.specs.Records.{record_at}
use Rattle.wm_spec.specs.declared.record.Record.{Record}
use Rattle.wm_spec.specs.declared.record.piece.PieceRecord.{PieceRecord}
use Rattle.wm_spec.specs.declared.record.stored.Stored.{Stored}
use Rattle.wm_state.specs.Standing.{newest_first, seen_at, stored_at, seen}
use Rattle.wm_tree.specs.Versions.{path_in}
use Rattle.wm_tree.specs.declared.version.Version.{Version as Node}
use Rattle.wm_index.specs.Kinds.{kind_at}
use Rattle.wm_image.specs.Shown.{first_held}
use Rattle.wm_version_rows.specs.Laying.{along, held_here}

along-same : (f g : ℕ → Option Held) → ((v : ℕ) → f v ≡ g v) → (vs : List ℕ) → along f vs ≡ along g vs
along-same f g same [] = refl
along-same f g same (v ∷ vs) = rw (same v, along-same f g same vs) refl

seen_at-along : (pieces : List PieceRecord) (c : Cell) (nodes : List Node) (v : ℕ) → seen_at pieces nodes v c ≡ along (λ w. stored_at pieces w c) (path_in nodes v)
seen_at-along pieces c [] v = refl
seen_at-along pieces c (x ∷ older) v = by_test (x.number == v) (seen_at-along pieces c older x.parent) (seen_at-along pieces c older v)
  where
    by_test : (b : Bool) → seen_at pieces older x.parent c ≡ along (λ w. stored_at pieces w c) (path_in older x.parent) → seen_at pieces older v c ≡ along (λ w. stored_at pieces w c) (path_in older v)
        → cond b (option_or (stored_at pieces v c) (seen_at pieces older x.parent c)) (seen_at pieces older v c)
        ≡ along (λ w. stored_at pieces w c) (cond b (v ∷ path_in older x.parent) (path_in older v))
    by_test true up rest = ap (option_or (stored_at pieces v c)) up
    by_test false up rest = rest

pub held-cons : (ss : List Stored) (id : ℕ) (ids : List ℕ) (v t : ℕ)
    → first_held (kind_at as_piece ss (id ∷ ids)) v t ≡ option_or (held_here (option_and_then as_piece (record_at ss id)) v t) (first_held (kind_at as_piece ss ids) v t)
held-cons ss id ids v t = by_record (record_at ss id)
  where
    by_kind : (k : Option PieceRecord) → first_held (cons_option k (kind_at as_piece ss ids)) v t ≡ option_or (held_here k v t) (first_held (kind_at as_piece ss ids) v t)
    by_kind None = refl
    by_kind (Some x) = refl

    by_record : (o : Option Record) → first_held (filter_map as_piece (cons_option o (filter_map (record_at ss) ids))) v t ≡ option_or (held_here (option_and_then as_piece o) v t) (first_held (kind_at as_piece ss ids) v t)
    by_record None = refl
    by_record (Some r) = by_kind (as_piece r)

-- what a version holds at a cell, by its path
pub seen_along : (p : Parts) (version : ℕ) (c : Cell) (held : ℕ → Option Held) → ((v : ℕ) → held v ≡ stored_at p.pieces v c) → along held (path_in (newest_first p.versions) version) ≡ seen p version c
seen_along p version c held is =
    along-same held (λ v. stored_at p.pieces v c) is (path_in (newest_first p.versions) version) ∙ sym (seen_at-along p.pieces c (newest_first p.versions) version)
