-- What is so of every entry of every list, also where it lies under others: any property; and that entries are sound.
use Rattle.std.proofs.Common.{◌≡◌, ◌≢◌, ℕ, ◌+◌, ◌<◌, ◌≤◌, ◌==◌, Bool, true, if◌then◌else◌, List, [], ◌∷◌, ◌++◌, length, Option, Some, None, option_map, refl, sym, ap, ◌∙◌, subst, arith, ◌⊎◌, inl, inr}
use Rattle.std.proofs.lemmas.Bool.{eq-eqb, ne_eqb}
use Rattle.std.specs.List.{find, list_all}
use Rattle.std.specs.Option.{option_map_or}
use Rattle.wm_making.specs.Rows.{is_filled}
use Rattle.wm_spec.specs.Lists.{Entry, Told, told_of}
use Rattle.wm_state.specs.Editing.{child_of, saved_at, turn_at_birth}
use Rattle.wm_state.specs.State.{Savepoint, Stand, Latest, At, Dated, Turn, Workspace, next_making, savepoint_made, with_entries, with_savepoint, workspace_of}
use Rattle.wm_model.specs.Lawful.{Each, Holds, IsSound, LawfulEntries, is_full_row}
use Rattle.wm_model.proofs.Lawful.Lists.{found_either, one_turn}
use Rattle.wm_model.proofs.Lawful.Saving.{again, newest}
use Rattle.wm_model.proofs.Lawful.Spaces.{Kept, Swapped, found_swapped}

-- ---- any property

pub each_append : (P : Entry → Type 0) (xs ys : List Entry) → Each P xs → Each P ys → Each P (xs ++ ys)
each_append P [] ys a b = b
each_append P (x ∷ xs) ys a b = (a.0, each_append P xs ys a.1 b)

pub each_split : (P : Entry → Type 0) (xs ys : List Entry) → Each P (xs ++ ys) → Each P xs × Each P ys
each_split P [] ys a = (tt, a)
each_split P (x ∷ xs) ys a = let rest = each_split P xs ys a.1 in ((a.0, rest.0), rest.1)

pub each_if : (P Q : Entry → Type 0) → ((e : Entry) → P e → Q e) → (xs : List Entry) → Each P xs → Each Q xs
each_if P Q f [] a = tt
each_if P Q f (x ∷ xs) a = (f x a.0, each_if P Q f xs a.1)

holds_if : (P Q : Entry → Type 0) → ((e : Entry) → P e → Q e) → (w : Workspace) → Holds P w → Holds Q w
holds_if P Q f w h = record {
  at_birth = each_if P Q f w.lists.at_birth h.at_birth;
  base = each_if P Q f w.lists.base h.base;
  own = each_if P Q f w.lists.own h.own;
  log = each_if P Q f w.lists.log h.log;
  marks = λ R k found. (let m = h.marks R k found in (each_if P Q f k.base m.0, each_if P Q f k.own m.1));
  turns = λ i t found. each_if P Q f t.content (h.turns i t found);
}

pub holds_appended : (P : Entry → Type 0) (es : List Entry) (w : Workspace) → Holds P w → Each P es → Holds P (with_entries es w)
holds_appended P es w h each = record {
  at_birth = h.at_birth;
  base = h.base;
  own = each_append P w.lists.own es h.own each;
  log = each_append P w.lists.log es h.log each;
  marks = h.marks;
  turns = h.turns;
}

-- so it is with each list of each workspace
abbrev pub AllHold : (Entry → Type 0) → List Workspace → Type 0
AllHold P ws = (n : ℕ) (w : Workspace) → workspace_of ws n ≡ Some w → Holds P w

-- what is saved where one stands
pub mark_holds : (P : Entry → Type 0) (m : ℕ) (spaces : List Workspace) (w : Workspace) (stand : Stand) (name : List ℕ) (implicit : Bool) (k : Savepoint) → Holds P w → saved_at m spaces w stand name implicit ≡ Some k → Each P k.base × Each P k.own
mark_holds P m spaces w Latest name implicit k h e =
    let same : newest (next_making spaces) m w name implicit ≡ k = cc in subst (λ (x : Savepoint). Each P x.base × Each P x.own) same (h.base, h.own)
mark_holds P m spaces w (Dated date) name implicit k h e = absurd (cc)
mark_holds P m spaces w (At making) name implicit k h e = by_found (savepoint_made making w.savepoints) refl e
  where
    by_found : (o : Option Savepoint) → savepoint_made making w.savepoints ≡ o → option_map (again (next_making spaces) name implicit) o ≡ Some k → Each P k.base × Each P k.own
    by_found None is e = absurd (cc)
    by_found (Some x) is e =
        let same : again (next_making spaces) name implicit x ≡ k = cc in
        subst (λ (y : Savepoint). Each P y.base × Each P y.own) same (h.marks (λ (y : Savepoint). y.making == making) x is)

-- one of the workspaces becomes another
pub all_swapped : (P : Entry → Type 0) (ws vs : List Workspace) (n : ℕ) (w v : Workspace) → AllHold P ws → Swapped ws vs n w v → Holds P v → AllHold P vs
all_swapped P ws vs n w v all k here m x found = by_number (found_swapped ws vs n w v k m x found)
  where
    by_number : ((m ≡ n) × (x ≡ v)) ⊎ ((m ≢ n) × (workspace_of ws m ≡ Some x)) → Holds P x
    by_number (inl same) = subst (Holds P) (sym same.1) here
    by_number (inr other) = all m x other.1

pub all_saved : (P : Entry → Type 0) (ws vs : List Workspace) (n place implicit : ℕ) (w : Workspace) (k : Savepoint) → AllHold P ws → Kept ws vs n w (with_savepoint place implicit k w) → Each P k.base × Each P k.own → AllHold P vs
all_saved P ws vs n place implicit w k all kept mark = all_swapped P ws vs n w (with_savepoint place implicit k w) all kept.swap here
  where
    by_savepoint : (Q : Savepoint → Bool) (x : Savepoint) → (find Q w.savepoints ≡ Some x) ⊎ (x ≡ k) → Each P x.base × Each P x.own
    by_savepoint Q x (inl found) = (all n w kept.swap.was).marks Q x found
    by_savepoint Q x (inr new) = subst (λ (y : Savepoint). Each P y.base × Each P y.own) (sym new) mark

    here : Holds P (with_savepoint place implicit k w)
    here = let h = all n w kept.swap.was in record {
      at_birth = h.at_birth;
      base = h.base;
      own = h.own;
      log = h.log;
      marks = λ Q x found. by_savepoint Q x (found_either Q w.savepoints k x found);
      turns = h.turns;
    }

-- a workspace more, born at a savepoint
pub all_more : (P : Entry → Type 0) (m : ℕ) (spaces ws : List Workspace) (w : Workspace) (k : Savepoint) (name : List ℕ) → AllHold P ws → Each P k.base × Each P k.own → AllHold P (ws ++ child_of m spaces w k name ∷ [])
all_more P m spaces ws w k name all mark n x found = by_found (found_either (λ (v : Workspace). v.number == n) ws (child_of m spaces w k name) x found)
  where
    taken : Each P (k.base ++ k.own)
    taken = each_append P k.base k.own mark.0 mark.1

    child : Holds P (child_of m spaces w k name)
    child = record {
      at_birth = taken;
      base = taken;
      own = tt;
      log = tt;
      marks = λ Q y none. absurd (cc);
      turns = λ i t turned. subst (λ (u : Turn). Each P u.content) (sym (one_turn (turn_at_birth k) t i turned)) taken;
    }

    by_found : (workspace_of ws n ≡ Some x) ⊎ (x ≡ child_of m spaces w k name) → Holds P x
    by_found (inl old) = all n x old
    by_found (inr new) = subst (Holds P) (sym new) child

-- ---- sound entries

-- stamps follow one another from this one on, and no text is empty
abbrev pub Written : ℕ → List Entry → Type 0
Written next [] = Unit {0}
Written next (e ∷ es) = (e.stamp ≡ next) × (option_map_or is_full_row e.row true ≡ true) × (list_all is_filled e.key ≡ true) × Written (next + 1) es

-- what stamps tell with these entries more
tells_more : (ℕ → Told) → ℕ → List Entry → ℕ → Told
tells_more tells next [] m = tells m
tells_more tells next (e ∷ es) m = if m == next then told_of e else tells_more tells (next + 1) es m

older : (tells : ℕ → Told) (next : ℕ) (es : List Entry) (m : ℕ) → m < next → tells_more tells next es m ≡ tells m
unfolding tells_more
older tells next [] m h = refl
older tells next (e ∷ es) m h = rw (ne_eqb m next (λ i. absurd (omega (arith, h, i)))) (older tells (next + 1) es m (omega (arith, h)))

sound_older : (tells : ℕ → Told) (next : ℕ) (es : List Entry) (e : Entry) → IsSound tells next e → IsSound (tells_more tells next es) (next + length es) e
sound_older tells next es e s = record {
  given = (let h = s.given in omega (arith, h));
  told = s.told ∙ sym (older tells next es e.stamp s.given);
  filled = s.filled;
  keyed = s.keyed;
}

sound_new : (f tells : ℕ → Told) (next top : ℕ) (es : List Entry) → ((m : ℕ) → next ≤ m → f m ≡ tells_more tells next es m) → next + length es ≤ top → Written next es → Each (IsSound f top) es
unfolding tells_more
sound_new f tells next top [] same under n = tt
sound_new f tells next top (e ∷ es) same under n = (
  record {
    given = (let i = n.0 in omega (arith, under, i));
    told = sym (ap f n.0 ∙ same next (omega arith) ∙ rw (eq-eqb next next refl) refl);
    filled = n.1;
    keyed = n.2;
  },
  sound_new f tells (next + 1) top es (λ m h. same m (omega (arith, h)) ∙ rw (ne_eqb m next (λ i. absurd (omega (arith, h, i)))) refl) (omega (arith, under)) n.3,
)

-- entries more in a workspace
pub entries_more : {staged : List Entry} (ws vs : List Workspace) (n next : ℕ) (w : Workspace) (es : List Entry) → LawfulEntries next ws staged → Kept ws vs n w (with_entries es w) → Written next es → LawfulEntries (next + length es) vs staged
entries_more {staged = staged} ws vs n next w es l k num =
    let P = IsSound (tells_more l.tells next es) (next + length es) in
    let all : AllHold P ws = λ m x found. holds_if (IsSound l.tells next) P (sound_older l.tells next es) x (l.each m x found) in
    record {
      tells = tells_more l.tells next es;
      each = all_swapped P ws vs n w (with_entries es w) all k.swap (holds_appended P es w (all n w k.swap.was) (sound_new (tells_more l.tells next es) l.tells next (next + length es) es (λ m h. refl) (omega arith) num));
      staged = each_if (IsSound l.tells next) P (sound_older l.tells next es) staged l.staged;
    }
