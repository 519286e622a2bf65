-- Laws of tables that stand under their names.
use Rattle.std.proofs.Common.{◌≡◌, ℕ, ◌+◌, ◌<◌, List, [], ◌∷◌, ◌++◌, length, drop, get_or, Bool, true, false, cond, not, ◌&&◌, ◌||◌, Option, Some, None, refl, sym, ap, ◌∙◌}
use Rattle.std.specs.List.{list_any}
use Rattle.std.specs.Str.{bytes_eq}
use Rattle.std.specs.Map.{values_of, lookup}
use Rattle.std.specs.declared.vec.Vec.{Vec}
use Rattle.std.specs.declared.alloc.Global.{Global}
use Rattle.std.proofs.lemmas.List.{drop_more}
use Rattle.std.proofs.lemmas.Slice.Eq.{bytes_eq-Decides}
use Rattle.indexmap.specs.IndexMap.{insert_entry}
use Rattle.wm_graph.specs.Rules.{differ}
use Rattle.wm_spec.specs.declared.record.table.Table.{Table}
use Rattle.wm_catalog.specs.Catalog.{found, same_name}
use Rattle.wm_catalog.specs.Named.{IsNamed}

abbrev Entry : Type 0
Entry = Vec ℕ Global × Table

-- what is looked up under a name is the table of that name
pub lookup-found : (name : List ℕ) (es : List Entry) → IsNamed es → lookup (λ (k : Vec ℕ Global). bytes_eq name k.items) es ≡ found name (values_of es)
lookup-found name [] named = refl
lookup-found name (e ∷ es) named = rw named.0 (by_test (bytes_eq name e.1.name) (lookup-found name es named.1))
  where
    by_test : (b : Bool) {x y : Option Table} → x ≡ y → cond b (Some e.1) x ≡ cond b (Some e.1) y
    by_test true rest = refl
    by_test false rest = rest

-- one more at the end
values_of-push : (es : List Entry) (k : Vec ℕ Global) (t : Table) → values_of (es ++ (k, t) ∷ []) ≡ values_of es ++ t ∷ []
values_of-push [] k t = refl
values_of-push (e ∷ es) k t = ap (λ (ts : List Table). e.1 ∷ ts) (values_of-push es k t)

-- a choice that gave nothing
chosen-none : (b : Bool) (x : Table) (o : Option Table) → cond b (Some x) o ≡ None → (b ≡ false) × (o ≡ None)
chosen-none true x o e = absurd (let it : Some x ≡ None = e in cc)
chosen-none false x o e = (refl, e)

-- the entries with a table under its name
abbrev put : List Entry → Vec ℕ Global → Table → List Entry
put es k t = insert_entry (λ (a b : Vec ℕ Global). bytes_eq a.items b.items) es k t

-- a table of a new name goes behind all others
pushed : (t : Table) (es : List Entry) (k : Vec ℕ Global) → IsNamed es → k.items ≡ t.name → found t.name (values_of es) ≡ None → put es k t ≡ es ++ (k, t) ∷ []
pushed t [] k named own none = refl
pushed t (e ∷ es) k named own none =
    let both = chosen-none (bytes_eq t.name e.1.name) e.1 (found t.name (values_of es)) none in
    let other : bytes_eq k.items e.0.items ≡ false = rw (own, named.0) both.0 in
    rw other (ap (λ (l : List Entry). e ∷ l) (pushed t es k named.1 own both.1))

pub added : (t : Table) (es : List Entry) (k : Vec ℕ Global) → IsNamed es → k.items ≡ t.name → found t.name (values_of es) ≡ None → values_of (put es k t) ≡ values_of es ++ t ∷ []
added t es k named own none = rw (pushed t es k named own none) (values_of-push es k t)

-- each table stands under its name still
pub named_still : (t : Table) (es : List Entry) (k : Vec ℕ Global) → IsNamed es → k.items ≡ t.name → IsNamed (put es k t)
named_still t [] k named own = (own, tt)
named_still t (e ∷ es) k named own = by_test (bytes_eq k.items e.0.items) refl (named_still t es k named.1 own)
  where
    by_test : (b : Bool) → bytes_eq k.items e.0.items ≡ b → IsNamed (put es k t) → IsNamed (cond b ((e.0, t) ∷ es) (e ∷ put es k t))
    by_test true same rest = (sym ((bytes_eq-Decides k.items e.0.items).0 same) ∙ own, named.1)
    by_test false other rest = (named.0, rest)

-- where names differ, none of those before a table has its name
pub unnamed_before : (front back : List Table) (t : Table) → differ same_name (front ++ t ∷ back) ≡ true → found t.name front ≡ None
unnamed_before [] back t differs = refl
unnamed_before (u ∷ us) back t differs = by_test (bytes_eq t.name u.name) refl (unnamed_before us back t (both (list_any (same_name u) (us ++ t ∷ back)) (differ same_name (us ++ t ∷ back)) differs).1)
  where
    both : (a b : Bool) → (not a && b) ≡ true → (a ≡ false) × (b ≡ true)
    both true b e = cc
    both false b e = (refl, e)

    -- it has the name of a later one
    met : (ts : List Table) → u.name ≡ t.name → list_any (same_name u) (ts ++ t ∷ back) ≡ true
    met [] same = rw ((bytes_eq-Decides u.name t.name).1 same) refl
    met (v ∷ vs) same = by_met (bytes_eq u.name v.name) (met vs same)
      where
        by_met : (b : Bool) → list_any (same_name u) (vs ++ t ∷ back) ≡ true → (b || list_any (same_name u) (vs ++ t ∷ back)) ≡ true
        by_met true rest = refl
        by_met false rest = rest

    by_test : (b : Bool) → bytes_eq t.name u.name ≡ b → found t.name us ≡ None → cond b (Some u) (found t.name us) ≡ None
    by_test true same rest =
        let one : list_any (same_name u) (us ++ t ∷ back) ≡ true = met us (sym ((bytes_eq-Decides t.name u.name).0 same)) in
        let other = (both (list_any (same_name u) (us ++ t ∷ back)) (differ same_name (us ++ t ∷ back)) differs).0 in
        absurd (let it : true ≡ false = sym one ∙ other in cc)
    by_test false other rest = rest

-- the next of some tables stands between those before it and those behind it
pub next_between : (front all : List Table) (n : ℕ) (t : Table) → (n < length all) × (t ≡ get_or all n t) → front ++ drop n all ≡ all → front ++ t ∷ drop (n + 1) all ≡ all
next_between front all n t is are = ap (λ ts. front ++ ts) (ap (λ (u : Table). u ∷ drop (n + 1) all) is.1 ∙ sym (drop_more all n t is.0)) ∙ are
