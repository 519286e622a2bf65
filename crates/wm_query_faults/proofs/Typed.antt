-- The conditions of a query that is not refused are typed.
use Rattle.std.proofs.Common.{◌≡◌, true, List, [], ◌∷◌, None, refl}
use Rattle.std.proofs.lemmas.Bool.{and_from}
use Rattle.wm_base.proofs.Plain.{none_mapped, option_or_parts}
use Rattle.wm_listing.specs.declared.columns.Column.{Column}
use Rattle.wm_syntax.specs.Trees.{Query, Src}
use Rattle.wm_query_faults.specs.Asking.{unknown_in_sources, mistyped_in_sources, are_sources_typed, query_fault_in}
use Rattle.wm_query_faults.specs.Lacking.{lacking_in_sources, lacking_in_query, table_meant}
use Rattle.wm_typing.proofs.Nones.{unknown_none, mistyped_none, lacking_none}
use Rattle.wm_typing.proofs.Typed.{filter_typed}
use Rattle.wm_typing.specs.Types.{is_filter_typed}

each_typed : (columns : List Column) (sources : List Src) → unknown_in_sources columns sources ≡ None → mistyped_in_sources columns sources ≡ None → lacking_in_sources columns sources ≡ None →
    are_sources_typed columns sources ≡ true
each_typed columns [] u m l = refl
each_typed columns (source ∷ sources) u m l =
    and_from _ _ (filter_typed columns source.on (option_or_parts _ _ u).0 (option_or_parts _ _ m).0 (option_or_parts _ _ l).0) (each_typed columns sources (option_or_parts _ _ u).1 (option_or_parts _ _ m).1 (option_or_parts _ _ l).1)

-- a query that is not refused lacks no WM_VALID
pub query_served : (columns : List Column) (query : Query) → query_fault_in columns query ≡ None → lacking_in_query columns query ≡ None
query_served columns query e = none_mapped (λ source. table_meant query.sources source) (lacking_in_query columns query) (lacking_none _ _ _ _ e)

pub query_typed : (columns : List Column) (query : Query) → query_fault_in columns query ≡ None → is_filter_typed columns query.filter ≡ true
query_typed columns query e =
    filter_typed columns query.filter
    (option_or_parts _ _ (option_or_parts _ _ (option_or_parts _ _ (option_or_parts _ _ (unknown_none _ _ _ _ e)).0).1).1).0
    (option_or_parts _ _ (option_or_parts _ _ (mistyped_none _ _ _ _ e)).1).1
    (option_or_parts _ _ (option_or_parts _ _ (option_or_parts _ _ (query_served columns query e)).1).1).0

pub sources_typed : (columns : List Column) (query : Query) → query_fault_in columns query ≡ None → are_sources_typed columns query.sources ≡ true
sources_typed columns query e =
    each_typed columns query.sources
    (option_or_parts _ _ (option_or_parts _ _ (option_or_parts _ _ (unknown_none _ _ _ _ e)).0).1).0
    (option_or_parts _ _ (option_or_parts _ _ (mistyped_none _ _ _ _ e)).1).0
    (option_or_parts _ _ (option_or_parts _ _ (query_served columns query e)).1).0
