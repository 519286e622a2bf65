-- What is listed of the sources of a query has their columns, and its rows fit them.
use Rattle.std.proofs.Common.{◌≡◌, ℕ, ◌+◌, ◌<◌, if◌then◌else◌, is_some, get_or, Bool, true, false, List, [], ◌∷◌, ◌++◌, length, drop, Option, Some, None, refl, sym, ap, ◌∙◌}
use Rattle.std.proofs.lemmas.List.{drop_more}
use Rattle.std.specs.Option.{option_map_or}
use Rattle.wm_listing.specs.declared.columns.Column.{Column}
use Rattle.wm_listing.specs.declared.listing.Listing.{Listing as Source}
use Rattle.wm_syntax.specs.declared.query.Src.{Src as SrcNode}
use Rattle.wm_syntax.specs.Trees.{Src}
use Rattle.wm_syntax.specs.Views.{src_view, srcs_view}
use Rattle.wm_graph.specs.Parts.{Parts}
use Rattle.wm_joining.specs.Kept.{columns_of}
use Rattle.wm_spec.specs.declared.record.table.Table.{Table}
use Rattle.wm_view_rows.specs.Columns.{columns_of_view}
use Rattle.wm_view_rows.specs.Views.{view_named}
use Rattle.wm_model.specs.Sources.{AreListed, Look}
use Rattle.wm_model.specs.Step.{columns_in, lost_source, source_name, table_asked}

-- the columns of the sources are those of what is listed of them
pub columns_listed : (p : Parts) (look : Look) (tables : List Table) (sources : List Src) (ls : List Source) → AreListed p look tables sources ls → columns_in tables sources ≡ columns_of ls
columns_listed p look tables [] ls are = ap columns_of (sym are)
columns_listed p look tables (x ∷ xs) [] are = absurd are
columns_listed p look tables (x ∷ xs) (l ∷ ls) are =
    ap (λ (o : Option Table). option_map_or (columns_of_view (view_named x.table) (source_name x)) o [] ++ columns_in tables xs) are.0.named
    ∙ ap (λ (cs : List Column). cs ++ columns_in tables xs) (sym are.0.columns) ∙ ap (λ (cs : List Column). l.columns ++ cs) (columns_listed p look tables xs ls are.1)

-- ---- one source after another

-- a list from a place on has the item at the place before the others
pub from_place : {A : Type 0} (xs : List A) (i : ℕ) (x : A) → i < length xs → x ≡ get_or xs i x → drop i xs ≡ x ∷ drop (i + 1) xs
from_place xs i x within at = drop_more xs i x within ∙ ap (λ y. y ∷ drop (i + 1) xs) (sym at)

-- where no source is lost, the first is a table, and none of the others is lost
pub none_lost : (tables : List Table) (x : SrcNode) (xs : List SrcNode) → lost_source tables (srcs_view (x ∷ xs)) ≡ None → (is_some (table_asked tables (src_view x)) ≡ true) × (lost_source tables (srcs_view xs) ≡ None)
none_lost tables x xs none = of (is_some (table_asked tables (src_view x))) none
  where
    of : (b : Bool) → (if b then lost_source tables (srcs_view xs) else Some x.table) ≡ None → (b ≡ true) × (lost_source tables (srcs_view xs) ≡ None)
    of false lost = absurd (cc)
    of true rest = (refl, rest)

-- there is a next one
pub next_there : (tables : List Table) (sources : List SrcNode) (i : ℕ) (x : SrcNode) → i < length sources → x ≡ get_or sources i x → lost_source tables (srcs_view (drop i sources)) ≡ None → None ≡ table_asked tables (src_view x) → ⊥
next_there tables sources i x within at there none =
    is_none (table_asked tables (src_view x)) none (none_lost tables x (drop (i + 1) sources) (sym (ap (λ ss. lost_source tables (srcs_view ss)) (from_place sources i x within at)) ∙ there)).0
  where
    is_none : (o : Option Table) → None ≡ o → is_some o ≡ true → ⊥
    is_none None e some = absurd (let f : false ≡ true = some in cc)
    is_none (Some t) e some = cc
