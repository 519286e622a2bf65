-- What is looked up among the outlines of workspaces is looked up in their records.
use Rattle.std.proofs.Common.{◌≡◌, ℕ, zero, suc, ◌==◌, Bool, true, false, cond, List, [], ◌∷◌, Option, Some, None, refl, sym, ap, ◌∙◌}
use Rattle.std.proofs.lemmas.Bool.{eq-eqb, true≢false}
use Rattle.std.proofs.lemmas.List.Folds.{find-append}
use Rattle.std.proofs.lemmas.Slice.Eq.{bytes_eq-Decides}
use Rattle.std.specs.Bool.{then_some}
use Rattle.std.specs.List.{find, list_all}
use Rattle.std.specs.Option.{option_and_then, option_map, option_map_or, option_or}
use Rattle.std.specs.Str.{bytes_eq}
use Rattle.wm_graph.specs.Parts.{Parts, space_of}
use Rattle.wm_graph.specs.Rules.{keep_rules}
use Rattle.wm_spec.specs.declared.record.space.Space.{Space}
use Rattle.wm_state.specs.Firsts.{first_recorded, first_space, least_below}
use Rattle.wm_state.specs.Standing.{space_after}
use Rattle.wm_state.specs.State.{Durable, Workspace, next_space, workspace_of}
use Rattle.wm_state.proofs.Mapped.{all-found, find-again, find-else}
use Rattle.wm_state.proofs.Spaces.{ruled_spaces}
use Rattle.wm_outline.specs.Outline.{SpaceOutline, below, outline_by, outline_in, space_by, space_in, with_last}
use Rattle.wm_outline.proofs.Least.{least_none, least_passes, none_first, number_under, tests_same}

-- ---- what there is below a bound

last_found : {A : Type 0} (P : A → Bool) (xs : List A) (o : Option A) → find P (with_last xs o) ≡ option_or (find P xs) (option_and_then (λ x. then_some (P x) x) o)
last_found {A = A} P xs None = or_none (find P xs)
  where
    or_none : (o : Option A) → o ≡ option_or o None
    or_none None = refl
    or_none (Some x) = refl
last_found P xs (Some x) = find-append P xs (x ∷ []) ∙ ap (option_or (find P xs)) (alone (P x))
  where
    alone : (b : Bool) → cond b (Some x) None ≡ then_some b x
    alone true = refl
    alone false = refl

-- the first that passes is that of the least number
pub find_below : {A : Type 0} (P : A → Bool) (f : ℕ → Option A) (k : ℕ) → find P (below k f) ≡ option_and_then f (least_below k (λ n. option_map_or P (f n) false))
unfolding below least_below
find_below P f zero = refl
find_below {A = A} P f (suc n) = last_found P (below n f) (f n) ∙ by_least (least_below n passes) refl (find_below P f n)
  where
    passes : ℕ → Bool
    passes k = option_map_or P (f k) false

    there : (o : Option A) → option_map_or P o false ≡ true → (z : Option A) → option_or o z ≡ o
    there None e z = absurd (true≢false (sym e))
    there (Some x) e z = refl

    here : (o : Option A) → f n ≡ o → option_and_then (λ x. then_some (P x) x) o ≡ option_and_then f (then_some (option_map_or P o false) n)
    here None is = refl
    here (Some x) is = by_test (P x)
      where
        by_test : (b : Bool) → then_some b x ≡ option_and_then f (then_some b n)
        by_test true = sym is
        by_test false = refl

    by_least : (o : Option ℕ) → least_below n passes ≡ o → find P (below n f) ≡ option_and_then f (least_below n passes)
        → option_or (find P (below n f)) (option_and_then (λ x. then_some (P x) x) (f n)) ≡ option_and_then f (option_or (least_below n passes) (then_some (passes n) n))
    by_least None is rest = rw (rest, is) (here (f n) refl)
    by_least (Some k) is rest = rw (rest, is) (there (f k) (least_passes n passes k is) (option_and_then (λ x. then_some (P x) x) (f n)))

-- ---- workspaces

-- the first workspace that passes is that of the first record that does
pub first_by : (p : Parts) (P : SpaceOutline → Bool) → find P (below (space_after p.spaces) (space_by p)) ≡ option_map (outline_by p) (first_recorded (λ (r : Space). P (outline_by p r)) p.spaces)
first_by p P =
    find_below P (space_by p) (space_after p.spaces)
    ∙ ap (option_and_then (space_by p)) (tests_same (space_after p.spaces) (λ n. option_map_or P (space_by p n) false) (λ n. option_map_or (λ (r : Space). P (outline_by p r)) (space_of p.spaces n) false) (λ n. mapped (space_of p.spaces n)))
    ∙ chained (least_below (space_after p.spaces) (λ n. option_map_or (λ (r : Space). P (outline_by p r)) (space_of p.spaces n) false))
  where
    mapped : (o : Option Space) → option_map_or P (option_map (outline_by p) o) false ≡ option_map_or (λ (r : Space). P (outline_by p r)) o false
    mapped None = refl
    mapped (Some r) = refl

    chained : (o : Option ℕ) → option_and_then (space_by p) o ≡ option_map (outline_by p) (option_and_then (space_of p.spaces) o)
    chained None = refl
    chained (Some n) = refl

-- and in a state the first workspace
pub first_at : (d : Durable) (P : SpaceOutline → Bool) → find P (below (next_space d.spaces) (space_in d)) ≡ option_map outline_in (first_space (λ (w : Workspace). P (outline_in w)) d.spaces)
first_at d P =
    find_below P (space_in d) (next_space d.spaces)
    ∙ ap (option_and_then (space_in d)) (tests_same (next_space d.spaces) (λ n. option_map_or P (space_in d n) false) (λ n. option_map_or (λ (w : Workspace). P (outline_in w)) (workspace_of d.spaces n) false) (λ n. mapped (workspace_of d.spaces n)))
    ∙ chained (least_below (next_space d.spaces) (λ n. option_map_or (λ (w : Workspace). P (outline_in w)) (workspace_of d.spaces n) false))
  where
    mapped : (o : Option Workspace) → option_map_or P (option_map outline_in o) false ≡ option_map_or (λ (w : Workspace). P (outline_in w)) o false
    mapped None = refl
    mapped (Some w) = refl

    chained : (o : Option ℕ) → option_and_then (space_in d) o ≡ option_map outline_in (option_and_then (workspace_of d.spaces) o)
    chained None = refl
    chained (Some n) = refl

-- of one name there is one record at most
pub named_first : (p : Parts) → keep_rules p ≡ true → (name : List ℕ) → first_recorded (λ (r : Space). bytes_eq name r.name) p.spaces ≡ find (λ (r : Space). bytes_eq name r.name) p.spaces
named_first p rules name = by_least (least_below (space_after p.spaces) passes) refl
  where
    Q : Space → Bool
    Q r = bytes_eq name r.name

    passes : ℕ → Bool
    passes n = option_map_or Q (space_of p.spaces n) false

    one_name : (x y : Space) → Q x ≡ true → Q y ≡ true → bytes_eq x.name y.name ≡ true
    one_name x y e h = (bytes_eq-Decides x.name y.name).1 (sym ((bytes_eq-Decides name x.name).0 e) ∙ (bytes_eq-Decides name y.name).0 h)

    passing : (o : Option Space) (n : ℕ) → space_of p.spaces n ≡ o → option_map_or Q o false ≡ true → o ≡ find Q p.spaces
    passing None n is e = absurd (true≢false (sym e))
    passing (Some r) n is e = sym (find-else Q (λ (q : Space). q.number == n) (λ (q t : Space). bytes_eq q.name t.name) one_name p.spaces r (ruled_spaces p rules).names is e)

    by_least : (o : Option ℕ) → least_below (space_after p.spaces) passes ≡ o → option_and_then (space_of p.spaces) (least_below (space_after p.spaces) passes) ≡ find Q p.spaces
    by_least None is = ap (option_and_then (space_of p.spaces)) is ∙ sym (none_first p Q rules is)
    by_least (Some n) is = ap (option_and_then (space_of p.spaces)) is ∙ passing (space_of p.spaces n) n refl (least_passes (space_after p.spaces) passes n is)

-- the workspace of a name
pub named_by : (p : Parts) → keep_rules p ≡ true → (name : List ℕ)
    → find (λ (o : SpaceOutline). bytes_eq name o.fields.name) (below (space_after p.spaces) (space_by p)) ≡ option_map (outline_by p) (find (λ (r : Space). bytes_eq name r.name) p.spaces)
named_by p rules name = first_by p (λ (o : SpaceOutline). bytes_eq name o.fields.name) ∙ ap (option_map (outline_by p)) (named_first p rules name)

-- what its name finds, its number finds
pub named_numbered : (p : Parts) → keep_rules p ≡ true → (name : List ℕ) (r : Space) → find (λ (q : Space). bytes_eq name q.name) p.spaces ≡ Some r → space_of p.spaces r.number ≡ Some r
named_numbered p rules name r found =
    find-again (λ (q t : Space). q.number == t.number) (λ q. eq-eqb q.number q.number refl) (λ (q : Space). bytes_eq name q.name) p.spaces r (ruled_spaces p rules).numbers found

-- where none passes, each record has what each has that does not pass
pub none_by : (p : Parts) (P : SpaceOutline → Bool) (Q : Space → Bool) → keep_rules p ≡ true → find P (below (space_after p.spaces) (space_by p)) ≡ None
    → ((n : ℕ) (r : Space) → space_of p.spaces n ≡ Some r → P (outline_by p r) ≡ false → Q r ≡ true) → list_all Q p.spaces ≡ true
none_by p P Q rules none each = all-found (λ (r : Space). r.number) Q p.spaces (ruled_spaces p rules).numbers (λ n r found. each n r found (fails n r found))
  where
    passes : ℕ → Bool
    passes n = option_map_or P (space_by p n) false

    lost : (o : Option ℕ) → least_below (space_after p.spaces) passes ≡ o → option_and_then (space_by p) o ≡ None → o ≡ None
    lost None is e = refl
    lost (Some k) is e = absurd (true≢false (sym (least_passes (space_after p.spaces) passes k is) ∙ ap (λ o. option_map_or P o false) e))

    no_number : least_below (space_after p.spaces) passes ≡ None
    no_number = lost (least_below (space_after p.spaces) passes) refl (sym (find_below P (space_by p) (space_after p.spaces)) ∙ none)

    fails : (n : ℕ) (r : Space) → space_of p.spaces n ≡ Some r → P (outline_by p r) ≡ false
    fails n r found = sym (ap (λ o. option_map_or P (option_map (outline_by p) o) false) found) ∙ least_none (space_after p.spaces) passes no_number n (number_under p n r found)
