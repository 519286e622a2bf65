-- A workspace stays lawful with entries more and with a savepoint more, and one that is born is lawful.
use Rattle.std.proofs.Common.{◌≡◌, ℕ, ◌+◌, ◌<◌, ◌≤◌, ◌==◌, Bool, true, false, cond, List, [], ◌∷◌, ◌++◌, length, drop, Option, Some, None, option_map, refl, sym, ap, ◌∙◌, subst, append_assoc, append-nil, arith, length-append, ◌⊎◌, inl, inr}
use Rattle.std.proofs.Math.Seq.{take-length, drop-length}
use Rattle.std.proofs.lemmas.Bool.{eq-eqb, ne_eqb}
use Rattle.std.proofs.lemmas.List.{drop-append-le}
use Rattle.std.proofs.lemmas.List.Folds.{find-append}
use Rattle.std.proofs.lemmas.Option.{same_Some}
use Rattle.std.specs.List.{find}
use Rattle.std.specs.Option.{option_or}
use Rattle.wm_spec.specs.Lists.{Entry}
use Rattle.wm_state.specs.Editing.{child_of, place_behind, saved_at, turn_at_birth}
use Rattle.wm_state.proofs.Tests.{find_push}
use Rattle.wm_state.specs.State.{Savepoint, Stand, Latest, At, Dated, Turn, Workspace, making_after, next_making, next_space, savepoint_made, with_entries, with_savepoint, workspace_of}
use Rattle.wm_model.specs.Lawful.{LawfulMark, LawfulSpace, Rises}
use Rattle.wm_model.proofs.Lawful.Lists.{found_either, one_turn}
use Rattle.wm_net.proofs.Alikes.{Alike-longer}
use Rattle.wm_net.proofs.Merging.{point_longer}

-- ---- entries more

mark_appended : (w : Workspace) (es : List Entry) (k : Savepoint) → LawfulMark w k → LawfulMark (with_entries es w) k
mark_appended w es k m = record {
  alike = rw (point_longer w.lists.at_birth w.lists.log es k.log_length m.within) m.alike;
  within = omega (arith, m.within, length-append w.lists.log es);
  past = m.past;
  place = m.place;
  turn = m.turn;
  base = m.base;
  since = λ e.
      ap (λ (l : List Entry). l ++ es) (m.since e)
      ∙ append_assoc k.own (drop k.log_length w.lists.log) es
      ∙ ap (λ (l : List Entry). k.own ++ l) (sym (drop-append-le k.log_length w.lists.log es m.within));
}

pub space_appended : (w : Workspace) (es : List Entry) → LawfulSpace w → LawfulSpace (with_entries es w)
space_appended w es l = record {
  latest = Alike-longer w.lists.base w.lists.own w.lists.at_birth w.lists.log es l.latest;
  marks = λ P k found. mark_appended w es k (l.marks P k found);
  rises = l.rises;
  made = l.made;
  first = l.first;
  last = l.last;
  live = l.live;
  turns = l.turns;
}

-- ---- a savepoint more

-- a savepoint fits behind those of a workspace, whose next place is then this one
pub record Fits (w : Workspace) (place implicit : ℕ) (k : Savepoint) : Type 0 where
  pub later : w.next_place ≤ place
  pub mark : LawfulMark (with_savepoint place implicit k w) k
  pub above : (P : Savepoint → Bool) (b : Savepoint) → find P w.savepoints ≡ Some b → Rises b k
  pub below : (P : Savepoint → Bool) (b : Savepoint) → find P w.savepoints ≡ Some b → Rises k b
  pub new : savepoint_made k.making w.savepoints ≡ None

mark_saved : (w : Workspace) (place implicit : ℕ) (k x : Savepoint) → w.next_place ≤ place → LawfulMark w x → LawfulMark (with_savepoint place implicit k w) x
mark_saved w place implicit k x later m = record {
  alike = m.alike;
  within = m.within;
  past = m.past;
  place = omega (arith, m.place, later);
  turn = m.turn;
  base = m.base;
  since = m.since;
}

pub space_saved : (w : Workspace) (place implicit : ℕ) (k : Savepoint) → LawfulSpace w → Fits w place implicit k → LawfulSpace (with_savepoint place implicit k w)
space_saved w place implicit k l f = record {
  latest = l.latest;
  marks = λ P x found. mark P x (found_either P w.savepoints k x found);
  rises = λ P Q a b found other. rises P Q a b (found_either P w.savepoints k a found) (found_either Q w.savepoints k b other);
  made = λ P x found. made P x (found_either P w.savepoints k x found);
  first = l.first;
  last = l.last;
  live = l.live;
  turns = l.turns;
}
  where
    mark : (P : Savepoint → Bool) (x : Savepoint) → (find P w.savepoints ≡ Some x) ⊎ (x ≡ k) → LawfulMark (with_savepoint place implicit k w) x
    mark P x (inl found) = mark_saved w place implicit k x f.later (l.marks P x found)
    mark P x (inr new) = subst (LawfulMark (with_savepoint place implicit k w)) (sym new) f.mark

    rises : (P Q : Savepoint → Bool) (a b : Savepoint) → (find P w.savepoints ≡ Some a) ⊎ (a ≡ k) → (find Q w.savepoints ≡ Some b) ⊎ (b ≡ k) → Rises a b
    rises P Q a b (inl found) (inl other) = l.rises P Q a b found other
    rises P Q a b (inl found) (inr new) = subst (Rises a) (sym new) (f.above P a found)
    rises P Q a b (inr new) (inl other) = subst (λ (x : Savepoint). Rises x b) (sym new) (f.below Q b other)
    rises P Q a b (inr new) (inr same) = λ le. omega (arith, ap (λ (x : Savepoint). x.log_length) new, ap (λ (x : Savepoint). x.log_length) same)

    by_making : ℕ → Savepoint → Bool
    by_making making y = y.making == making

    made : (P : Savepoint → Bool) (x : Savepoint) → (find P w.savepoints ≡ Some x) ⊎ (x ≡ k) → savepoint_made x.making (w.savepoints ++ k ∷ []) ≡ Some x
    made P x (inl found) = find_push (by_making x.making) w.savepoints k x (l.made P x found)
    made P x (inr new) = subst (λ (y : Savepoint). savepoint_made y.making (w.savepoints ++ k ∷ []) ≡ Some y) (sym new)
        (find-append (by_making k.making) w.savepoints (k ∷ []) ∙ ap (λ (o : Option Savepoint). option_or o (savepoint_made k.making (k ∷ []))) f.new ∙ rw (eq-eqb k.making k.making refl) refl)

-- what is made at what is newest
abbrev pub newest : ℕ → ℕ → Workspace → List ℕ → Bool → Savepoint
newest making m w name implicit = record {
  making = making;
  name = name;
  implicit = implicit;
  place = w.next_place;
  moment = m;
  base = w.lists.base;
  own = w.lists.own;
  from = w.from;
  log_length = length w.lists.log;
  rebases = w.rebases;
}

-- and where another savepoint is
abbrev pub again : ℕ → List ℕ → Bool → Savepoint → Savepoint
again making name implicit k = record k { making = making; name = name; implicit = implicit }

-- ---- the making that comes next

no_making : (m : ℕ) (ks : List Savepoint) → making_after ks ≤ m → savepoint_made m ks ≡ None
no_making m [] after = refl
no_making m (k ∷ ks) after = rw (ne_eqb k.making m (λ same. absurd (omega (arith, after, same)))) (no_making m ks (omega (arith, after)))

making_under : (ws : List Workspace) (n : ℕ) (w : Workspace) → workspace_of ws n ≡ Some w → making_after w.savepoints ≤ next_making ws
making_under [] n w found = absurd (cc)
making_under (v ∷ ws) n w found = by_test (v.number == n) found (making_under ws n w)
  where
    by_test : (b : Bool) → cond b (Some v) (workspace_of ws n) ≡ Some w → (workspace_of ws n ≡ Some w → making_after w.savepoints ≤ next_making ws) → making_after w.savepoints ≤ next_making (v ∷ ws)
    by_test true h rest = let same : making_after v.savepoints ≡ making_after w.savepoints = ap (λ (x : Workspace). making_after x.savepoints) (same_Some v w h) in omega (arith, same)
    by_test false h rest = let less : making_after w.savepoints ≤ next_making ws = rest h in omega (arith, less)

-- no savepoint has it
none_made : (ws : List Workspace) (n : ℕ) (w : Workspace) → workspace_of ws n ≡ Some w → savepoint_made (next_making ws) w.savepoints ≡ None
none_made ws n w found = no_making (next_making ws) w.savepoints (making_under ws n w found)

-- ---- what is saved

fits_newest : (w : Workspace) (making m icp : ℕ) (name : List ℕ) (implicit : Bool) → LawfulSpace w → savepoint_made making w.savepoints ≡ None → Fits w (w.next_place + 1) icp (newest making m w name implicit)
fits_newest w making m icp name implicit l new = record {
  later = omega arith;
  mark = record {
    alike = rw (take-length w.lists.log) l.latest;
    within = omega arith;
    past = omega arith;
    place = omega arith;
    turn = l.last;
    base = λ e. (refl, refl);
    since = λ e. rw (drop-length w.lists.log) (sym (append-nil w.lists.own));
  };
  above = λ P b found h. (l.marks P b found).within;
  below = λ P b found h. absurd (let g = (l.marks P b found).place in omega (arith, g, h));
  new = new;
}

fits_again : (w : Workspace) (i making icp : ℕ) (name : List ℕ) (implicit : Bool) (k : Savepoint) → LawfulSpace w → savepoint_made i w.savepoints ≡ Some k → savepoint_made making w.savepoints ≡ None → Fits w w.next_place icp (again making name implicit k)
fits_again w i making icp name implicit k l found new =
    let at = λ (y : Savepoint). y.making == i in
    let m = l.marks at k found in
    record {
      later = omega arith;
      mark = record { alike = m.alike; within = m.within; past = m.past; place = m.place; turn = m.turn; base = m.base; since = m.since };
      above = λ P b other. l.rises P at b k other found;
      below = λ P b other. l.rises at P k b found other;
      new = new;
    }

-- what is saved where one stands fits behind the savepoints
pub fits : (m : ℕ) (spaces : List Workspace) (w : Workspace) (stand : Stand) (name : List ℕ) (implicit : Bool) (icp : ℕ) (k : Savepoint) → LawfulSpace w → workspace_of spaces w.number ≡ Some w → saved_at m spaces w stand name implicit ≡ Some k → Fits w (place_behind w stand) icp k
fits m spaces w Latest name implicit icp k l there e = rw (sym (let same : newest (next_making spaces) m w name implicit ≡ k = cc in same)) (fits_newest w (next_making spaces) m icp name implicit l (none_made spaces w.number w there))
fits m spaces w (Dated date) name implicit icp k l there e = absurd (cc)
fits m spaces w (At making) name implicit icp k l there e = by_found (savepoint_made making w.savepoints) refl e
  where
    by_found : (o : Option Savepoint) → savepoint_made making w.savepoints ≡ o → option_map (again (next_making spaces) name implicit) o ≡ Some k → Fits w w.next_place icp k
    by_found None is h = absurd (cc)
    by_found (Some x) is h = rw (sym (let same : again (next_making spaces) name implicit x ≡ k = cc in same)) (fits_again w making (next_making spaces) icp name implicit x l is (none_made spaces w.number w there))

-- ---- a workspace that is born

pub child_lawful : (m : ℕ) (spaces : List Workspace) (w : Workspace) (k : Savepoint) (name : List ℕ) → w.number < next_space spaces → LawfulSpace (child_of m spaces w k name)
child_lawful m spaces w k name older = record {
  latest = record { same = λ c. refl };
  marks = λ P x found. absurd (cc);
  rises = λ P Q a b found other. absurd (cc);
  made = λ P x found. absurd (cc);
  first = λ t found. ap (λ (u : Turn). u.content) (one_turn (turn_at_birth k) t 0 found);
  last = λ t found. (let same = one_turn (turn_at_birth k) t 0 found in (ap (λ (u : Turn). u.content) same, ap (λ (u : Turn). u.log_length) same));
  live = λ none. absurd (omega (arith, older, none));
  turns = rw (ne_eqb (next_space spaces) 0 (λ none. absurd (omega (arith, older, none)))) refl;
}
