-- Hops when a version comes or goes, and what they tell where the rules are kept.
use Rattle.std.proofs.Common.{◌≡◌, ◌≢◌, ◌<◌, ◌≤◌, ◌==◌, ◌&&◌, ◌||◌, ◌-◌, ℕ, Bool, true, false, not, cond, eqb, nat_lt, List, [], ◌∷◌, map, get_or, Option, Some, None, is_some, refl, sym, ap, ◌∙◌, subst, arith, ◌⊎◌, inl, inr}
use Rattle.std.proofs.lemmas.Bool.{cases_eq, cases_lt, eq-eqb, ne_eqb, lt-ltb, le-ltb, or_right}
use Rattle.std.proofs.lemmas.Option.{same_Some}
use Rattle.std.specs.List.{AllByRecursion, cons_option, filter_map}
use Rattle.std.specs.Option.{option_map, option_and_then, IfSome, IsSome}
use Rattle.wm_base.proofs.Plain.{none_some, or_last}
use Rattle.wm_graph.specs.Parts.{as_version, parts_of, version_of}
use Rattle.wm_records.specs.Hops.{hop_at, is_near, Leads, IsHop, AreHops, AreWithout}
use Rattle.wm_records.specs.declared.hops.Hop.{Hop}
use Rattle.wm_records.specs.declared.hops.Hops.{Hops}
use Rattle.wm_records.proofs.Descending.{is_on, passed}
use Rattle.wm_records.proofs.Lists.{record_at-above}
use Rattle.wm_records.proofs.Paths.{Ruled, path_goes_on}
use Rattle.wm_index.proofs.Lists.{record_at-none, record_at-here, record_at-away}
use Rattle.wm_index.specs.Indexed.{listed}
use Rattle.wm_spec.specs.Records.{record_at}
use Rattle.wm_spec.specs.declared.record.Record.{Record}
use Rattle.wm_spec.specs.declared.record.stored.Stored.{Stored}
use Rattle.wm_spec.specs.declared.record.version.Version.{Version}
use Rattle.wm_state.specs.ById.{Ascend, perhaps_before, set_at}
use Rattle.wm_state.specs.Standing.{newest_first, node_of}
use Rattle.wm_state.proofs.ById.{AllAbove-less}
use Rattle.wm_tree.proofs.Paths.{version_in-here, version_in-away}
use Rattle.wm_tree.specs.Versions.{version_in, IsTree}
use Rattle.wm_tree.specs.declared.version.Version.{Version as Node}

-- ---- the list of hops

pub before_first : (hops : Hops) (n : ℕ) → n < hops.first → hop_at hops n ≡ None
before_first hops n less = ap (λ b. cond b None (get_or hops.by_number.items (n - hops.first) None)) (lt-ltb n hops.first less)

either_way : (b : Bool) (o : Option Hop) → cond b o o ≡ o
either_way true o = refl
either_way false o = refl

-- where the list is empty there is none
pub none_at : (hops : Hops) → hops.by_number.items ≡ [] → (n : ℕ) → hop_at hops n ≡ None
none_at hops empty n =
    ap (λ (xs : List (Option Hop)). cond (nat_lt n hops.first) None (get_or xs (n - hops.first) None)) empty ∙ either_way (nat_lt n hops.first) None

-- ---- versions when what stands under an id changes

abbrev versions_in : List Stored → List Version
versions_in ss = filter_map as_version (map (λ (s : Stored). s.record) ss)

abbrev All : (Version → Type 0) → List Version → Type 0
All P vs = AllByRecursion P vs

all_more : (P Q : Version → Type 0) → ((x : Version) → P x → Q x) → (vs : List Version) → All P vs → All Q vs
all_more P Q more [] all = tt
all_more P Q more (v ∷ vs) all = (more v all.0, all_more P Q more vs all.1)

all_cons : (P : Version → Type 0) (o : Option Version) (vs : List Version) → IfSome o P → All P vs → All P (cons_option o vs)
all_cons P None vs one all = all
all_cons P (Some x) vs one all = (one, all)

all_tail : (P : Version → Type 0) (o : Option Version) (vs : List Version) → All P (cons_option o vs) → IfSome o P × All P vs
all_tail P None vs all = (tt, all)
all_tail P (Some x) vs all = all

all_perhaps : (P : Version → Type 0) (id : ℕ) (becomes : Option Record) (ss : List Stored) → IfSome (option_and_then as_version becomes) P → All P (versions_in ss)
    → All P (versions_in (perhaps_before id becomes ss))
all_perhaps P id None ss one all = all
all_perhaps P id (Some r) ss one all = all_cons P (as_version r) (versions_in ss) one all

all_set : (P : Version → Type 0) (id : ℕ) (becomes : Option Record) (ss : List Stored) → IfSome (option_and_then as_version becomes) P → All P (versions_in ss)
    → All P (versions_in (set_at id becomes ss))
all_set P id becomes [] one all = all_perhaps P id becomes [] one all
all_set P id becomes (s ∷ ss) one all =
    let two = all_tail P (as_version s.record) (versions_in ss) all in
    by_place (s.id == id) (nat_lt id s.id) (all_perhaps P id becomes ss one two.1) (all_perhaps P id becomes (s ∷ ss) one all)
    (all_cons P (as_version s.record) (versions_in (set_at id becomes ss)) two.0 (all_set P id becomes ss one two.1))
  where
    by_place : (b c : Bool) → All P (versions_in (perhaps_before id becomes ss)) → All P (versions_in (perhaps_before id becomes (s ∷ ss)))
        → All P (versions_in (s ∷ set_at id becomes ss))
        → All P (versions_in (cond b (perhaps_before id becomes ss) (cond c (perhaps_before id becomes (s ∷ ss)) (s ∷ set_at id becomes ss))))
    by_place true c here before behind = here
    by_place false true here before behind = before
    by_place false false here before behind = behind

-- a version of another number before others is not what is sought
find_cons : (n : ℕ) (o : Option Version) (vs : List Version) → IfSome o (λ (x : Version). x.number ≢ n) → version_of (cons_option o vs) n ≡ version_of vs n
find_cons n None vs other = refl
find_cons n (Some x) vs other = ap (λ b. cond b (Some x) (version_of vs n)) (ne_eqb x.number n other)

find_perhaps : (n id : ℕ) (becomes : Option Record) (ss : List Stored) → IfSome (option_and_then as_version becomes) (λ (x : Version). x.number ≢ n)
    → version_of (versions_in (perhaps_before id becomes ss)) n ≡ version_of (versions_in ss) n
find_perhaps n id None ss other = refl
find_perhaps n id (Some r) ss other = find_cons n (as_version r) (versions_in ss) other

find_behind : (n : ℕ) (o : Option Version) (vs us : List Version) → version_of us n ≡ version_of vs n → version_of (cons_option o us) n ≡ version_of (cons_option o vs) n
find_behind n None vs us same = same
find_behind n (Some x) vs us same = ap (cond (eqb x.number n) (Some x)) same

-- the version of a number stays where none of it goes or comes
find_set : (n id : ℕ) (becomes : Option Record) (ss : List Stored) → IfSome (option_and_then as_version (record_at ss id)) (λ (x : Version). x.number ≢ n)
    → IfSome (option_and_then as_version becomes) (λ (x : Version). x.number ≢ n) → version_of (versions_in (set_at id becomes ss)) n ≡ version_of (versions_in ss) n
find_set n id becomes [] goes comes = find_perhaps n id becomes [] comes
find_set n id becomes (s ∷ ss) goes comes =
    by_place (cases_eq s.id id) (nat_lt id s.id)
    (λ away. find_set n id becomes ss (subst (λ o. IfSome (option_and_then as_version o) (λ (x : Version). x.number ≢ n)) (record_at-away s ss id away) goes) comes)
  where
    by_order : (c : Bool) → version_of (versions_in (set_at id becomes ss)) n ≡ version_of (versions_in ss) n
        → version_of (versions_in (cond c (perhaps_before id becomes (s ∷ ss)) (s ∷ set_at id becomes ss))) n ≡ version_of (versions_in (s ∷ ss)) n
    by_order true rest = find_perhaps n id becomes (s ∷ ss) comes
    by_order false rest = find_behind n (as_version s.record) (versions_in ss) (versions_in (set_at id becomes ss)) rest

    by_place : (s.id ≡ id) ⊎ (s.id ≢ id) → (c : Bool) → (s.id ≢ id → version_of (versions_in (set_at id becomes ss)) n ≡ version_of (versions_in ss) n)
        → version_of (versions_in (cond (eqb s.id id) (perhaps_before id becomes ss) (cond c (perhaps_before id becomes (s ∷ ss)) (s ∷ set_at id becomes ss)))) n
        ≡ version_of (versions_in (s ∷ ss)) n
    by_place (inl same) c rest =
        ap (λ b. version_of (versions_in (cond b (perhaps_before id becomes ss) (cond c (perhaps_before id becomes (s ∷ ss)) (s ∷ set_at id becomes ss)))) n) (eq-eqb s.id id same)
        ∙ find_perhaps n id becomes ss comes
        ∙ sym (find_cons n (as_version s.record) (versions_in ss) (subst (λ o. IfSome (option_and_then as_version o) (λ (x : Version). x.number ≢ n)) (record_at-here s ss id same) goes))
    by_place (inr away) c rest =
        ap (λ b. version_of (versions_in (cond b (perhaps_before id becomes ss) (cond c (perhaps_before id becomes (s ∷ ss)) (s ∷ set_at id becomes ss)))) n) (ne_eqb s.id id away)
        ∙ by_order c (rest away)

-- a version that comes above all others is found
find_first : (x : Version) (vs : List Version) → version_of (x ∷ vs) x.number ≡ Some x
find_first x vs = ap (λ b. cond b (Some x) (version_of vs x.number)) (eq-eqb x.number x.number refl)

find_new : (x : Version) (id : ℕ) (becomes : Option Record) (ss : List Stored) → option_and_then as_version becomes ≡ Some x
    → All (λ (v : Version). v.number ≢ x.number) (versions_in ss) → version_of (versions_in (set_at id becomes ss)) x.number ≡ Some x
find_new x id None ss is apart = absurd (cc)
find_new x id (Some r) [] is apart = ap (λ o. version_of (cons_option o []) x.number) is ∙ find_first x []
find_new x id (Some r) (s ∷ ss) is apart =
    let two = all_tail (λ (v : Version). v.number ≢ x.number) (as_version s.record) (versions_in ss) apart in
    by_place (s.id == id) (nat_lt id s.id) (put ss) (put (s ∷ ss))
    (find_cons x.number (as_version s.record) (versions_in (set_at id (Some r) ss)) two.0 ∙ find_new x id (Some r) ss is two.1)
  where
    put : (ts : List Stored) → version_of (versions_in (perhaps_before id (Some r) ts)) x.number ≡ Some x
    put ts = ap (λ o. version_of (cons_option o (versions_in ts)) x.number) is ∙ find_first x (versions_in ts)

    by_place : (b c : Bool) → version_of (versions_in (perhaps_before id (Some r) ss)) x.number ≡ Some x → version_of (versions_in (perhaps_before id (Some r) (s ∷ ss))) x.number ≡ Some x
        → version_of (versions_in (s ∷ set_at id (Some r) ss)) x.number ≡ Some x
        → version_of (versions_in (cond b (perhaps_before id (Some r) ss) (cond c (perhaps_before id (Some r) (s ∷ ss)) (s ∷ set_at id (Some r) ss)))) x.number ≡ Some x
    by_place true c here before behind = here
    by_place false true here before behind = before
    by_place false false here before behind = behind

-- the versions where one comes in its own place, or none goes or comes
versions_perhaps : (id : ℕ) (becomes : Option Record) (ss : List Stored) → versions_in (perhaps_before id becomes ss) ≡ cons_option (option_and_then as_version becomes) (versions_in ss)
versions_perhaps id None ss = refl
versions_perhaps id (Some r) ss = refl

versions_again : (id : ℕ) (becomes : Option Record) (ss : List Stored) → Ascend ss → option_and_then as_version (record_at ss id) ≡ option_and_then as_version becomes
    → versions_in (set_at id becomes ss) ≡ versions_in ss
versions_again id becomes [] sorted same =
    versions_perhaps id becomes [] ∙ ap (λ o. cons_option o []) (sym same ∙ ap (option_and_then as_version) (record_at-none id))
versions_again id becomes (s ∷ ss) sorted same =
    by_place (cases_eq s.id id) (cases_lt id s.id) (λ away. versions_again id becomes ss sorted.1 (ap (option_and_then as_version) (sym (record_at-away s ss id away)) ∙ same))
  where
    by_place : (s.id ≡ id) ⊎ (s.id ≢ id) → (id < s.id) ⊎ (s.id ≤ id) → (s.id ≢ id → versions_in (set_at id becomes ss) ≡ versions_in ss)
        → versions_in (set_at id becomes (s ∷ ss)) ≡ versions_in (s ∷ ss)
    by_place (inl here) order rest =
        rw (eq-eqb _ _ here)
        (versions_perhaps id becomes ss ∙ ap (λ o. cons_option o (versions_in ss)) (sym same ∙ ap (option_and_then as_version) (record_at-here s ss id here)))
    by_place (inr away) (inl lt) rest =
        rw (ne_eqb _ _ away, lt-ltb _ _ lt)
        (versions_perhaps id becomes (s ∷ ss)
        ∙ ap (λ o. cons_option o (versions_in (s ∷ ss)))
        (sym same ∙ ap (option_and_then as_version) (record_at-away s ss id away ∙ record_at-above id ss (AllAbove-less id s.id ss lt sorted.0))))
    by_place (inr away) (inr more) rest = rw (ne_eqb _ _ away, le-ltb _ _ more) (ap (cons_option (as_version s.record)) (rest away))

-- ---- ways up

pub leads_here : (vs : List Version) (v : ℕ) → Leads vs v v
leads_here vs v = λ p here step. here

pub leads_over : (vs : List Version) (low mid high : ℕ) → low ≤ mid → mid ≤ high → Leads vs low mid → Leads vs mid high → Leads vs low high
leads_over vs low mid high less more under over = λ p here step.
    over p (under p here (λ w from till. step w from (omega (arith, till, more)))) (λ w from. step w (omega (arith, from, less)))

-- a way stays where no version on it comes
leads_set : (far v id : ℕ) (becomes : Option Record) (ss : List Stored) → IfSome (option_and_then as_version becomes) (λ (x : Version). v < x.number)
    → Leads (versions_in ss) far v → Leads (versions_in (set_at id becomes ss)) far v
leads_set far v id becomes ss comes leads = λ p here step.
    leads p here
    (λ w from till all.
    step w from till
    (all_set (λ (x : Version). x.number ≡ w → p x.parent ≡ true) id becomes ss (not_its (option_and_then as_version becomes) w (λ n. p n ≡ true) till comes) all))
  where
    not_its : (o : Option Version) (w : ℕ) (P : ℕ → Type 0) → w ≤ v → IfSome o (λ (x : Version). v < x.number) → IfSome o (λ (x : Version). x.number ≡ w → P x.parent)
    not_its None w P till above = tt
    not_its (Some x) w P till above = λ same. absurd (omega (arith, till, above, same))

-- the way from the parent of a version that comes above all others goes on to it
leads_new : (x : Version) (far id : ℕ) (becomes : Option Record) (ss : List Stored) → option_and_then as_version becomes ≡ Some x → far ≤ x.parent → x.parent < x.number
    → All (λ (v : Version). v.number < x.number) (versions_in ss) → Leads (versions_in ss) far x.parent → Leads (versions_in (set_at id becomes ss)) far x.number
leads_new x far id becomes ss is from older below leads = λ p here step.
    let up : p x.parent ≡ true = leads_set far x.parent id becomes ss (above (option_and_then as_version becomes) is) leads p here (λ w low high. step w low (omega (arith, high, older))) in
    step x.number (omega (arith, from, older)) (omega arith)
    (all_set (λ (v : Version). v.number ≡ x.number → p v.parent ≡ true) id becomes ss (its (option_and_then as_version becomes) is (λ n. p n ≡ true) up)
    (all_more (λ (v : Version). v.number < x.number) (λ (v : Version). v.number ≡ x.number → p v.parent ≡ true) (λ v less same. absurd (omega (arith, less, same))) (versions_in ss) below))
  where
    above : (o : Option Version) → o ≡ Some x → IfSome o (λ (v : Version). x.parent < v.number)
    above None e = tt
    above (Some v) e = subst (λ (y : Version). x.parent < y.number) (sym (same_Some v x e)) older

    its : (o : Option Version) → o ≡ Some x → (P : ℕ → Type 0) → P x.parent → IfSome o (λ (v : Version). v.number ≡ x.number → P v.parent)
    its None e P up = tt
    its (Some v) e P up = λ same. subst (λ (y : Version). P y.parent) (sym (same_Some v x e)) up

-- ---- the hops after a change

-- what holds of all versions holds of one that is found, and that has the number
found_all : (P : Version → Type 0) (vs : List Version) (n : ℕ) (x : Version) → version_of vs n ≡ Some x → All P vs → (x.number ≡ n) × P x
found_all P [] n x e all = cc
found_all P (y ∷ ys) n x e all = by_number (cases_eq y.number n) (λ h. found_all P ys n x h all.1)
  where
    by_number : (y.number ≡ n) ⊎ (y.number ≢ n) → (version_of ys n ≡ Some x → (x.number ≡ n) × P x) → (x.number ≡ n) × P x
    by_number (inl here) rest =
        let same : y ≡ x = same_Some y x (sym (ap (λ b. cond b (Some y) (version_of ys n)) (eq-eqb y.number n here)) ∙ e) in
        (ap (λ (z : Version). z.number) (sym same) ∙ here, subst P same all.0)
    by_number (inr away) rest = rest (sym (ap (λ b. cond b (Some y) (version_of ys n)) (ne_eqb y.number n away)) ∙ e)

-- the version of a hop
record Owner (vs : List Version) (v : ℕ) (h : Hop) : Type 0 where
  version : Version
  there : version_of vs v ≡ Some version
  parent : version.parent ≡ h.parent

owner : (vs : List Version) (v : ℕ) (h : Hop) → IsHop vs v h → Owner vs v h
owner vs v h is = by_version (version_of vs v) refl is.parent
  where
    by_version : (o : Option Version) → version_of vs v ≡ o → option_map (λ (x : Version). x.parent) o ≡ Some h.parent → Owner vs v h
    by_version None there parent = absurd (cc)
    by_version (Some x) there parent = record { version = x; there = there; parent = same_Some x.parent h.parent parent }

hop_below : (vs : List Version) (hops : Hops) (v : ℕ) (h : Hop) → AreHops vs hops → IsHop vs v h → v ≤ hops.greatest
hop_below vs hops v h are is =
    let own = owner vs v h is in
    let found = found_all (λ (x : Version). x.number ≤ hops.greatest) vs v own.version own.there are.below in
    omega (arith, found.0, found.1)

if_more : (o : Option Version) (P Q : Version → Type 0) → ((x : Version) → P x → Q x) → IfSome o P → IfSome o Q
if_more None P Q more one = tt
if_more (Some x) P Q more one = more x one

if_none : (o : Option Version) (P : Version → Type 0) → o ≡ None → IfSome o P
if_none None P e = tt
if_none (Some x) P e = absurd (cc)

if_it : (o : Option Version) (x : Version) (P : Version → Type 0) → o ≡ Some x → P x → IfSome o P
if_it None x P e one = tt
if_it (Some y) x P e one = subst P (sym (same_Some y x e)) one

hop_set : (v : ℕ) (h : Hop) (id : ℕ) (becomes : Option Record) (ss : List Stored) → IfSome (option_and_then as_version (record_at ss id)) (λ (x : Version). x.number ≢ v)
    → IfSome (option_and_then as_version becomes) (λ (x : Version). v < x.number) → IsHop (versions_in ss) v h → IsHop (versions_in (set_at id becomes ss)) v h
hop_set v h id becomes ss goes comes is = record {
  parent = ap (option_map (λ (x : Version). x.parent))
      (find_set v id becomes ss goes
      (if_more (option_and_then as_version becomes) (λ (x : Version). v < x.number) (λ (x : Version). x.number ≢ v) (λ x less same. absurd (omega (arith, less, same))) comes))
      ∙ is.parent;
  down = is.down;
  leads = leads_set h.far v id becomes ss comes is.leads;
}

-- a version comes in its own place, or none goes or comes
pub hops_again : (ss : List Stored) (id : ℕ) (becomes : Option Record) (hops : Hops) → Ascend ss → option_and_then as_version (record_at ss id) ≡ option_and_then as_version becomes
    → AreHops (parts_of ss).versions hops → AreHops (parts_of (set_at id becomes ss)).versions hops
unfolding parts_of
hops_again ss id becomes hops sorted same are = subst (λ vs. AreHops vs hops) (sym (versions_again id becomes ss sorted same)) are

-- no version comes
pub hops_kept : (ss : List Stored) (id : ℕ) (becomes : Option Record) (hops : Hops) → option_and_then as_version becomes ≡ None
    → AreWithout (option_and_then as_version (record_at ss id)) hops → AreHops (parts_of ss).versions hops → AreHops (parts_of (set_at id becomes ss)).versions hops
unfolding parts_of
hops_kept ss id becomes hops none without are = record {
  below = all_set (λ (x : Version). x.number ≤ hops.greatest) id becomes ss (if_none (option_and_then as_version becomes) (λ (x : Version). x.number ≤ hops.greatest) none) are.below;
  known = λ v h e. hop_set v h id becomes ss (without v h e) (if_none (option_and_then as_version becomes) (λ (x : Version). v < x.number) none) (are.known v h e);
}

-- no hop is left
pub hops_cleared : (ss : List Stored) (id : ℕ) (becomes : Option Record) (x : Version) (old new : Hops) → option_and_then as_version becomes ≡ Some x → new.by_number.items ≡ []
    → old.greatest ≤ new.greatest → x.number ≤ new.greatest → AreHops (parts_of ss).versions old → AreHops (parts_of (set_at id becomes ss)).versions new
unfolding parts_of
hops_cleared ss id becomes x old new is empty more covered are = record {
  below = all_set (λ (v : Version). v.number ≤ new.greatest) id becomes ss (if_it (option_and_then as_version becomes) x (λ (v : Version). v.number ≤ new.greatest) is covered)
      (all_more (λ (v : Version). v.number ≤ old.greatest) (λ (v : Version). v.number ≤ new.greatest) (λ v less. omega (arith, less, more)) (versions_in ss) are.below);
  known = λ v h e. absurd (none_some (hop_at new v) h (none_at new empty v) e);
}

kept : (b : Bool) (o : Option Hop) (h : Hop) → cond b o None ≡ Some h → o ≡ Some h
kept true o h e = e
kept false o h e = cc

-- a version comes above all others, and its hop with it
pub hops_learned : (ss : List Stored) (id : ℕ) (becomes : Option Record) (x : Version) (hop : Hop) (old new : Hops) → option_and_then as_version becomes ≡ Some x
    → old.greatest < x.number → x.parent < x.number → hop.parent ≡ x.parent → (hop.far ≤ x.parent) × Leads (parts_of ss).versions hop.far x.parent
    → ((n : ℕ) → hop_at new n ≡ cond (x.number == n) (Some hop) (cond (is_near old x.number && nat_lt n x.number) (hop_at old n) None))
    → new.greatest ≡ x.number → AreWithout (option_and_then as_version (record_at ss id)) old → AreHops (parts_of ss).versions old → AreHops (parts_of (set_at id becomes ss)).versions new
unfolding parts_of
hops_learned ss id becomes x hop old new is above older parent leads updates top without are = record {
  below = all_set (λ (v : Version). v.number ≤ new.greatest) id becomes ss
      (if_it (option_and_then as_version becomes) x (λ (v : Version). v.number ≤ new.greatest) is (omega (arith, top)))
      (all_more (λ (v : Version). v.number ≤ old.greatest) (λ (v : Version). v.number ≤ new.greatest) (λ v less. omega (arith, less, above, top)) (versions_in ss) are.below);
  known = λ v h e. by_number v h (cases_eq x.number v) e;
}
  where
    own : IsHop (versions_in (set_at id becomes ss)) x.number hop
    own = record {
      parent = ap (option_map (λ (v : Version). v.parent))
          (find_new x id becomes ss is
          (all_more (λ (v : Version). v.number ≤ old.greatest) (λ (v : Version). v.number ≢ x.number) (λ v less same. absurd (omega (arith, less, same, above))) (versions_in ss) are.below))
          ∙ ap (λ n. Some n) (sym parent);
      down = omega (arith, leads.0, older);
      leads = leads_new x hop.far id becomes ss is leads.0 older
          (all_more (λ (v : Version). v.number ≤ old.greatest) (λ (v : Version). v.number < x.number) (λ v less. omega (arith, less, above)) (versions_in ss) are.below) leads.1;
    }

    by_number : (v : ℕ) (h : Hop) → (x.number ≡ v) ⊎ (x.number ≢ v) → hop_at new v ≡ Some h → IsHop (versions_in (set_at id becomes ss)) v h
    by_number v h (inl here) e =
        let same : hop ≡ h = same_Some hop h
        (sym (updates v ∙ ap (λ b. cond b (Some hop) (cond (is_near old x.number && nat_lt v x.number) (hop_at old v) None)) (eq-eqb x.number v here)) ∙ e) in
        subst (λ n. IsHop (versions_in (set_at id becomes ss)) n h) here (subst (IsHop (versions_in (set_at id becomes ss)) x.number) same own)
    by_number v h (inr away) e =
        let before : hop_at old v ≡ Some h =
        kept (is_near old x.number && nat_lt v x.number) (hop_at old v) h
        (sym (updates v ∙ ap (λ b. cond b (Some hop) (cond (is_near old x.number && nat_lt v x.number) (hop_at old v) None)) (ne_eqb x.number v away)) ∙ e) in
        let under = hop_below (versions_in ss) old v h are (are.known v h before) in
        hop_set v h id becomes ss (without v h before) (if_it (option_and_then as_version becomes) x (λ (y : Version). v < y.number) is (omega (arith, under, above))) (are.known v h before)

-- the hops of no records
pub no_hops : (es : List (ℕ × Record)) (hops : Hops) → es ≡ [] → AreHops [] hops → AreHops (parts_of (listed es)).versions hops
unfolding parts_of
no_hops es hops none are = subst (λ fs. AreHops (parts_of (listed fs)).versions hops) (sym none) are

-- ---- what the hops tell where the rules are kept

either_there : (b : Bool) (x : Node) (o : Option Node) → IsSome o → IsSome (cond b (Some x) o)
either_there true x o some = refl
either_there false x o some = some

parent_there : (ns : List Node) (n : ℕ) (y : Node) → IsTree ns → version_in ns n ≡ Some y → y.parent ≢ 0 → IsSome (version_in ns y.parent)
parent_there [] n y tree is some = cc
parent_there (x ∷ older) n y tree is some =
    by_number (cases_eq x.number n) (λ below. parent_there older n y tree.3 below some)
  where
    by_number : (x.number ≡ n) ⊎ (x.number ≢ n) → (version_in older n ≡ Some y → IsSome (version_in older y.parent)) → IsSome (version_in (x ∷ older) y.parent)
    by_number (inl here) rest =
        let same : x ≡ y = same_Some x y (sym (version_in-here x older n here) ∙ is) in
        either_there (eqb x.number y.parent) x (version_in older y.parent)
        (subst (λ (z : Node). IsSome (version_in older z.parent)) same (tree.2 (λ zero_is. some (ap (λ (z : Node). z.parent) (sym same) ∙ zero_is))))
    by_number (inr away) rest = either_there (eqb x.number y.parent) x (version_in older y.parent) (rest (sym (version_in-away x older n away) ∙ is))

-- by the rules the parent of a version is there, or there is none
parent_known : (vs : List Version) (n : ℕ) (x : Version) → Ruled vs → version_of vs n ≡ Some x → x.parent ≢ 0 → is_some (version_of vs x.parent) ≡ true
parent_known vs n x r is some =
    some_back (version_of vs x.parent)
    (subst IsSome (r.same x.parent) (parent_there (newest_first vs) n (node_of x) r.tree (r.same n ∙ ap (option_map node_of) is) some))
  where
    some_back : (o : Option Version) → IsSome (option_map node_of o) → is_some o ≡ true
    some_back None e = e
    some_back (Some y) e = refl

abbrev alike : Bool → Bool → Bool
alike a b = cond a b (not b)

alike_itself : (a : Bool) → alike a a ≡ true
alike_itself true = refl
alike_itself false = refl

alike_same : (a b : Bool) → alike a b ≡ true → a ≡ b
alike_same true true e = refl
alike_same true false e = cc
alike_same false true e = cc
alike_same false false e = refl

-- a version that is missing, and not the end of all paths
abbrev is_missing : List Version → ℕ → Bool
is_missing vs w = not (w == 0) && not (is_some (version_of vs w))

present : (a b : Bool) → b ≡ true → (not a && not b) ≡ false
present true true e = refl
present false true e = refl
present a false e = cc

-- what stands on a path at the end of a hop or below stands on it before the hop
pub skips : (vs : List Version) (far v sought : ℕ) → Ruled vs → Leads vs far v → is_some (version_of vs v) ≡ true → sought ≤ far → is_on vs sought far ≡ is_on vs sought v
skips vs far v sought r leads there low =
    let all : passes v ≡ true = leads passes (or_right (is_missing vs far) (same far) (alike_itself (is_on vs sought far))) (λ w from till. step w from) in
    sym (alike_same (is_on vs sought v) (is_on vs sought far) (or_last (is_missing vs v) (same v) (present (v == 0) (is_some (version_of vs v)) there) all))
  where
    same : ℕ → Bool
    same w = alike (is_on vs sought w) (is_on vs sought far)

    passes : ℕ → Bool
    passes w = is_missing vs w || same w

    not_missing : (n : ℕ) → (n ≢ 0 → is_some (version_of vs n) ≡ true) → is_missing vs n ≡ false
    not_missing n known = by_root (cases_eq n 0)
      where
        by_root : (n ≡ 0) ⊎ (n ≢ 0) → is_missing vs n ≡ false
        by_root (inl root) = ap (λ b. not b && not (is_some (version_of vs n))) (eq-eqb n 0 root)
        by_root (inr some) = present (n == 0) (is_some (version_of vs n)) (known some)

    step : (w : ℕ) → far < w → AllByRecursion (λ (x : Version). x.number ≡ w → passes x.parent ≡ true) vs → passes w ≡ true
    step w from all = by_version (version_of vs w) refl
      where
        by_version : (o : Option Version) → version_of vs w ≡ o → passes w ≡ true
        by_version None none =
            ap (λ b. (not b && not (is_some (version_of vs w))) || same w) (ne_eqb w 0 (λ e. absurd (omega (arith, from, e))))
            ∙ ap (λ (o : Option Version). not (is_some o) || same w) none
        by_version (Some x) is =
            let found = found_all (λ (y : Version). y.number ≡ w → passes y.parent ≡ true) vs w x is all in
            let up : is_on vs sought x.parent ≡ is_on vs sought far =
            alike_same (is_on vs sought x.parent) (is_on vs sought far)
            (or_last (is_missing vs x.parent) (same x.parent) (not_missing x.parent (parent_known vs w x r is)) (found.1 found.0)) in
            or_right (is_missing vs w) (same w)
            (ap (λ b. alike b (is_on vs sought far)) (sym (passed vs w sought x r is (omega (arith, low, from))) ∙ up) ∙ alike_itself (is_on vs sought far))

-- the hop that was looked up
pub hop_told : (vs : List Version) (hops : Hops) (v : ℕ) (o : Option Hop) → o ≡ hop_at hops v → AreHops vs hops → IfSome o (IsHop vs v)
hop_told vs hops v None e are = tt
hop_told vs hops v (Some h) e are = are.known v h (sym e)

-- a version with a hop is there
pub there_by_hop : (vs : List Version) (v : ℕ) (o : Option Hop) → IfSome o (IsHop vs v) → is_some o ≡ true → is_some (version_of vs v) ≡ true
there_by_hop vs v None is some = cc
there_by_hop vs v (Some h) is some = ap (λ (o : Option Version). is_some o) (owner vs v h is).there

-- a step to the end of a hop, and one to the parent
pub hopped : (vs : List Version) (v sought : ℕ) (h : Hop) → Ruled vs → IsHop vs v h → sought ≤ h.far → is_on vs sought h.far ≡ is_on vs sought v
hopped vs v sought h r is low = skips vs h.far v sought r is.leads (ap (λ (o : Option Version). is_some o) (owner vs v h is).there) low

pub stepped : (vs : List Version) (v sought : ℕ) (h : Hop) → Ruled vs → IsHop vs v h → sought < v → (h.parent < v) × (is_on vs sought h.parent ≡ is_on vs sought v)
stepped vs v sought h r is newer =
    let own = owner vs v h is in (
      subst (λ n. n < v) own.parent (path_goes_on vs v own.version r own.there).1,
      ap (is_on vs sought) (sym own.parent) ∙ passed vs v sought own.version r own.there newer,
    )
