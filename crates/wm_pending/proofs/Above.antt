-- What is held along the path of a version above a base.
use Rattle.std.proofs.Common.{◌≡◌, ◌<◌, ℕ, Bool, true, false, cond, ◌==◌, List, [], ◌∷◌, Option, Some, None, refl, sym, ap, ◌∙◌}
use Rattle.std.proofs.lemmas.Bool.{eqb-true}
use Rattle.std.specs.Option.{option_or}
use Rattle.wm_graph.specs.Parts.{Parts, version_of}
use Rattle.wm_graph.specs.Rules.{keep_rules}
use Rattle.wm_records.proofs.Paths.{ruled, path_goes_on, path_ends}
use Rattle.wm_version_rows.specs.Laying.{along}
use Rattle.wm_period.specs.Pieces.{Held}
use Rattle.wm_spec.specs.Lists.{Cell}
use Rattle.wm_spec.specs.declared.record.piece.PieceRecord.{PieceRecord}
use Rattle.wm_spec.specs.declared.record.version.Version.{Version}
use Rattle.wm_state.proofs.Forking.{own-none}
use Rattle.wm_state.specs.Standing.{newest_first, own_at, seen_above, stored_at}
use Rattle.wm_tree.specs.Versions.{path_in}
use Rattle.wm_tree.specs.declared.version.Version.{Version as Node}

-- the front of a path before a base
abbrev before : ℕ → List ℕ → List ℕ
before base [] = []
before base (v ∷ vs) = cond (v == base) [] (v ∷ before base vs)

own_at-along : (pieces : List PieceRecord) (c : Cell) (base : ℕ) (nodes : List Node) (v : ℕ) → own_at pieces nodes base v c ≡ along (λ w. stored_at pieces w c) (before base (path_in nodes v))
own_at-along pieces c base [] v = refl
own_at-along pieces c base (x ∷ older) v = by_number (x.number == v) (own_at-along pieces c base older x.parent) (own_at-along pieces c base older v)
  where
    held : ℕ → Option Held
    held = λ w. stored_at pieces w c

    here : (b : Bool) → own_at pieces older base x.parent c ≡ along held (before base (path_in older x.parent))
        → cond b None (option_or (held v) (own_at pieces older base x.parent c)) ≡ along held (cond b [] (v ∷ before base (path_in older x.parent)))
    here true up = refl
    here false up = ap (option_or (held v)) up

    away : (b : Bool) → (b ≡ true → own_at pieces older base v c ≡ None) → own_at pieces older base v c ≡ along held (before base (path_in older v))
        → cond b None (own_at pieces older base v c) ≡ along held (before base (path_in older v))
    away true none rest = sym (none refl) ∙ rest
    away false none rest = rest

    at_base : (v == base) ≡ true → own_at pieces older base v c ≡ None
    at_base e = ap (λ n. own_at pieces older base n c) (eqb-true v base e) ∙ own-none pieces older base c

    by_number : (b : Bool) → own_at pieces older base x.parent c ≡ along held (before base (path_in older x.parent)) → own_at pieces older base v c ≡ along held (before base (path_in older v))
        → cond (v == base) None (cond b (option_or (held v) (own_at pieces older base x.parent c)) (own_at pieces older base v c))
        ≡ along held (before base (cond b (v ∷ path_in older x.parent) (path_in older v)))
    by_number true up rest = here (v == base) up
    by_number false up rest = away (v == base) at_base rest

-- a version above a base has what is its own, and elsewhere what its parent has above it
pub own_goes_on : (p : Parts) (base n : ℕ) (v : Version) → keep_rules p ≡ true → Some v ≡ cond (n == base) None (version_of p.versions n)
    → ((c : Cell) → seen_above p base n c ≡ option_or (stored_at p.pieces n c) (seen_above p base v.parent c)) × (v.parent < n)
own_goes_on p base n v rules is = by_base (n == base) refl is
  where
    nodes : List Node
    nodes = newest_first p.versions

    by_base : (b : Bool) → (n == base) ≡ b → Some v ≡ cond b None (version_of p.versions n)
        → ((c : Cell) → seen_above p base n c ≡ option_or (stored_at p.pieces n c) (seen_above p base v.parent c)) × (v.parent < n)
    by_base true at e = cc
    by_base false at e =
        let goes = path_goes_on p.versions n v (ruled p rules) (sym e) in (
          λ c.
              own_at-along p.pieces c base nodes n
              ∙ ap (λ vs. along (λ w. stored_at p.pieces w c) (before base vs)) goes.0
              ∙ ap (λ b. along (λ w. stored_at p.pieces w c) (cond b [] (n ∷ before base (path_in nodes v.parent)))) at
              ∙ ap (option_or (stored_at p.pieces n c)) (sym (own_at-along p.pieces c base nodes v.parent)),
          goes.1,
        )

-- where there is none nothing is held
pub own_ends : (p : Parts) (base n : ℕ) (c : Cell) → keep_rules p ≡ true → None ≡ cond (n == base) None (version_of p.versions n) → seen_above p base n c ≡ None
own_ends p base n c rules is = by_base (n == base) refl is
  where
    nodes : List Node
    nodes = newest_first p.versions

    by_base : (b : Bool) → (n == base) ≡ b → None ≡ cond b None (version_of p.versions n) → seen_above p base n c ≡ None
    by_base true at e = ap (λ m. own_at p.pieces nodes base m c) (eqb-true n base at) ∙ own-none p.pieces nodes base c
    by_base false at e = own_at-along p.pieces c base nodes n ∙ ap (λ vs. along (λ w. stored_at p.pieces w c) (before base vs)) (path_ends p.versions n (ruled p rules) (sym e))

-- nothing is held above a base where no version has anything
pub own_nowhere : (pieces : List PieceRecord) (nodes : List Node) (base v : ℕ) (c : Cell) → ((w : ℕ) → stored_at pieces w c ≡ None) → own_at pieces nodes base v c ≡ None
own_nowhere pieces nodes base v c none = own_at-along pieces c base nodes v ∙ nothing (before base (path_in nodes v))
  where
    nothing : (vs : List ℕ) → along (λ w. stored_at pieces w c) vs ≡ None
    nothing [] = refl
    nothing (w ∷ vs) = rw (none w) (nothing vs)
