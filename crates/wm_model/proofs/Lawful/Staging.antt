-- What sessions have staged: what is so of each entry of it stays so, whatever is set of a session.
use Rattle.std.proofs.Common.{◌≡◌, ℕ, Bool, true, false, if◌then◌else◌, List, [], ◌∷◌, ◌++◌, map, Option, Some, None, option_map, subst}
use Rattle.std.proofs.lemmas.Option.{same_Some}
use Rattle.std.specs.List.{filter, find, flat_map}
use Rattle.std.specs.Option.{option_map_or}
use Rattle.std.specs.Str.{bytes_eq}
use Rattle.wm_spec.specs.Lists.{Entry}
use Rattle.wm_state.specs.State.{Resolve, Session}
use Rattle.wm_model.specs.Lawful.{Each, staged_in, staged_of}
use Rattle.wm_model.specs.Seating.{thawed}
use Rattle.wm_model.specs.Step.{Setting, altered, decisions_of, with_decisions, with_setting}
use Rattle.wm_model.specs.Step.Sessions as settings
use Rattle.wm_model.proofs.Lawful.Entries.{each_append, each_split}

-- what a session has staged
abbrev pub staged_by : Session → List Entry
staged_by x = flat_map staged_of (decisions_of x)

pub each_flat_append : {A : Type 0} (P : Entry → Type 0) (f : A → List Entry) (xs ys : List A) → Each P (flat_map f xs) → Each P (flat_map f ys) → Each P (flat_map f (xs ++ ys))
each_flat_append P f [] ys a b = b
each_flat_append P f (x ∷ xs) ys a b = let h = each_split P (f x) (flat_map f xs) a in each_append P (f x) (flat_map f (xs ++ ys)) h.0 (each_flat_append P f xs ys h.1 b)

-- one more session, or some of them
pub staged_push : (P : Entry → Type 0) (xs : List Session) (x : Session) → Each P (staged_in xs) → Each P (staged_by x) → Each P (staged_in (xs ++ x ∷ []))
staged_push P xs x each here = each_flat_append P staged_by xs (x ∷ []) each (each_append P (staged_by x) [] here tt)

pub staged_filter : (P : Entry → Type 0) (test : Session → Bool) (xs : List Session) → Each P (staged_in xs) → Each P (staged_in (filter test xs))
staged_filter P test [] each = tt
staged_filter P test (x ∷ xs) each = let h = each_split P (staged_by x) (staged_in xs) each in by_test (test x) h.0 (staged_filter P test xs h.1)
  where
    by_test : (b : Bool) → Each P (staged_by x) → Each P (staged_in (filter test xs)) → Each P (staged_in (if b then x ∷ filter test xs else filter test xs))
    by_test true here rest = each_append P (staged_by x) (staged_in (filter test xs)) here rest
    by_test false here rest = rest

-- one of them
pub staged_found : (P : Entry → Type 0) (test : Session → Bool) (xs : List Session) (x : Session) → Each P (staged_in xs) → find test xs ≡ Some x → Each P (staged_by x)
staged_found P test [] x each found = absurd (cc)
staged_found P test (y ∷ ys) x each found = let h = each_split P (staged_by y) (staged_in ys) each in by_test (test y) h.0 (staged_found P test ys x h.1) found
  where
    by_test : (b : Bool) → Each P (staged_by y) → (find test ys ≡ Some x → Each P (staged_by x)) → (if b then Some y else find test ys) ≡ Some x → Each P (staged_by x)
    by_test true here rest is = subst (λ (z : Session). Each P (staged_by z)) (same_Some y x is) here
    by_test false here rest is = rest is

-- ---- what is set

-- what is set of a session stages nothing but this
abbrev pub staged_with : Setting → List Entry
staged_with (settings.Decide ds) = flat_map staged_of ds
staged_with setting = []

staged_set : (P : Entry → Type 0) (setting : Setting) (x : Session) → Each P (staged_with setting) → Each P (staged_by x) → Each P (staged_by (with_setting setting x))
staged_set P (settings.Stand space stand) x new each = each
staged_set P (settings.Period period) x new each = each
staged_set P (settings.Conflict workspace) x new each = each
staged_set P (settings.Begin space) x new each = tt
staged_set P settings.End x new each = tt
staged_set P (settings.Freeze space) x new each = each
staged_set P (settings.Lock mode) x new each = each
staged_set P (settings.Compare d) x new each = each
staged_set P (settings.Decide ds) x new each = by_resolve x.resolve each
  where
    by_resolve : (o : Option Resolve) → Each P (flat_map staged_of (option_map_or (λ (r : Resolve). r.decisions) o [])) → Each P (flat_map staged_of (option_map_or (λ (r : Resolve). r.decisions) (option_map (with_decisions ds) o) []))
    by_resolve None each = tt
    by_resolve (Some r) each = each_flat_append P staged_of r.decisions ds each new

pub staged_altered : (P : Entry → Type 0) (name : List ℕ) (setting : Setting) (xs : List Session) → Each P (staged_with setting) → Each P (staged_in xs) → Each P (staged_in (altered name setting xs))
staged_altered P name setting [] new each = tt
staged_altered P name setting (x ∷ xs) new each =
    let h = each_split P (staged_by x) (staged_in xs) each in
    each_append P (staged_by (if bytes_eq name x.name then with_setting setting x else x)) (staged_in (altered name setting xs)) (by_name (bytes_eq name x.name) h.0) (staged_altered P name setting xs new h.1)
  where
    by_name : (b : Bool) → Each P (staged_by x) → Each P (staged_by (if b then with_setting setting x else x))
    by_name true here = staged_set P setting x new here
    by_name false here = here

-- sessions that do not hold a workspace any more
pub staged_thawed : (P : Entry → Type 0) (n : ℕ) (xs : List Session) → Each P (staged_in xs) → Each P (staged_in (map (thawed n) xs))
staged_thawed P n [] each = tt
staged_thawed P n (x ∷ xs) each =
    let h = each_split P (staged_by x) (staged_in xs) each in each_append P (staged_by x) (staged_in (map (thawed n) xs)) h.0 (staged_thawed P n xs h.1)
