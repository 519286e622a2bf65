-- A workspace that is rebased on its parent stays lawful, and so do the workspaces.
use Rattle.std.proofs.Common.{◌≡◌, ℕ, zero, suc, ◌+◌, ◌<◌, ◌≤◌, Bool, true, false, if◌then◌else◌, List, [], ◌∷◌, ◌++◌, length, get_or, slice_get, Some, refl, sym, ap, ◌∙◌, subst, arith, length-append, le_refl, ◌⊎◌, inl, inr}
use Rattle.std.proofs.lemmas.Bool.{ne_eqb}
use Rattle.std.proofs.lemmas.Option.{slice_get-get_or, same_Some}
use Rattle.wm_net.proofs.Merging.{base_law, point_longer}
use Rattle.wm_spec.specs.Lists.{Alike, Entry}
use Rattle.wm_state.proofs.Changing.{differ-changed}
use Rattle.wm_state.specs.Editing.{rebased, turn_on}
use Rattle.wm_state.specs.State.{Savepoint, Turn, Workspace, content, turn_of, with_gained, with_space, workspace_of}
use Rattle.wm_model.specs.Lawful.{Based, Each, Holds, LawfulMark, LawfulSpace, LawfulSpaces, point}
use Rattle.wm_model.proofs.Lawful.Entries.{each_append}
use Rattle.wm_model.proofs.Lawful.Lists.{one_turn}
use Rattle.wm_model.proofs.Lawful.Spaces.{Becomes, spaces_become, swapped}

-- ---- a turn more

-- each is one that there was before, or the new one
turn_either : (ts : List Turn) (x : Turn) (i : ℕ) (t : Turn) → slice_get (ts ++ x ∷ []) i ≡ Some t → (slice_get ts i ≡ Some t) ⊎ (t ≡ x)
turn_either [] x i t found = inr (one_turn x t i found)
turn_either (y ∷ ys) x zero t found = inl found
turn_either (y ∷ ys) x (suc i) t found = turn_either ys x i t found

turn_before : (ts : List Turn) (x : Turn) (i : ℕ) (t : Turn) → i < length ts → slice_get (ts ++ x ∷ []) i ≡ Some t → slice_get ts i ≡ Some t
turn_before [] x i t under found = absurd (omega (arith, under))
turn_before (y ∷ ys) x zero t under found = found
turn_before (y ∷ ys) x (suc i) t under found = turn_before ys x i t (omega (arith, under)) found

turn_behind : (ts : List Turn) (x : Turn) (i : ℕ) (t : Turn) → i ≡ length ts → slice_get (ts ++ x ∷ []) i ≡ Some t → t ≡ x
turn_behind [] x i t at found = one_turn x t i found
turn_behind (y ∷ ys) x zero t at found = absurd (omega (arith, at))
turn_behind (y ∷ ys) x (suc i) t at found = turn_behind ys x i t (omega (arith, at)) found

-- ---- a workspace beside its parent

-- how a workspace stands on its parent
pub record Over (p w : Workspace) : Type 0 where
  pub older : w.parent < w.number
  pub within : w.from ≤ length p.lists.log
  pub before : (number : ℕ) (t : Turn) → turn_of w number ≡ Some t → (t.log_length ≤ w.from) × (t.rebases ≤ p.rebases)
  pub alike : (number : ℕ) (t : Turn) → turn_of w number ≡ Some t → Alike t.content (point p t.log_length)

pub over_parent : (ws : List Workspace) (w p : Workspace) → Based ws w → workspace_of ws w.parent ≡ Some p → Over p w
over_parent ws w p b found =
    subst (λ (x : Workspace). Over x w) (same_Some b.parent p (sym b.is ∙ found)) (record { older = b.older; within = b.within; before = b.before; alike = b.alike })

turns_there : (w : Workspace) → LawfulSpace w → 0 < w.number → length w.turns ≡ w.rebases + 1
turns_there w l above = l.turns ∙ rw (ne_eqb w.number 0 (λ none. absurd (omega (arith, above, none)))) refl

-- its copy of its parent's content is what the parent was where it took it
pub base_alike : (p w : Workspace) → LawfulSpace w → Over p w → 0 < w.number → Alike w.lists.base (point p w.from)
base_alike p w l o above =
    let turns = turns_there w l above in
    let t = get_or w.turns w.rebases (turn_on p) in
    let found : turn_of w w.rebases ≡ Some t = slice_get-get_or w.turns w.rebases (turn_on p) (omega (arith, turns)) in
    let last = l.last t found in
    rw (← last.0, ← last.1) (o.alike w.rebases t found)

-- ---- a rebase

-- a workspace that gains entries of its parent, and is rebased on it
abbrev pub rebased_with : Bool → Workspace → List Entry → Workspace → Workspace
rebased_with emptied p es w = rebased emptied p (with_gained es w)

mark_rebased : (emptied : Bool) (p w : Workspace) (es : List Entry) (k : Savepoint) → LawfulSpace w → 0 < w.number → LawfulMark w k → LawfulMark (rebased_with emptied p es w) k
mark_rebased emptied p w es k l above m =
    let turns = turns_there w l above in
    record {
      alike = rw (point_longer w.lists.at_birth w.lists.log es k.log_length m.within) m.alike;
      within = omega (arith, m.within, length-append w.lists.log es);
      past = omega (arith, m.past);
      place = m.place;
      turn = λ t found. m.turn t (turn_before w.turns (turn_on p) k.rebases t (omega (arith, m.past, turns)) found);
      base = λ later. absurd (omega (arith, m.past, later));
      since = λ later. absurd (omega (arith, m.past, later));
    }

space_rebased : (emptied : Bool) (p w : Workspace) (es : List Entry) → LawfulSpace w → 0 < w.number → Alike (content (rebased_with emptied p es w)) (w.lists.at_birth ++ (w.lists.log ++ es))
    → LawfulSpace (rebased_with emptied p es w)
space_rebased emptied p w es l above alike =
    let turns = turns_there w l above in
    record {
      latest = alike;
      marks = λ P k found. mark_rebased emptied p w es k l above (l.marks P k found);
      rises = l.rises;
      made = l.made;
      first = λ t found. l.first t (turn_before w.turns (turn_on p) 0 t (omega (arith, turns)) found);
      last = λ t found.
          let same = turn_behind w.turns (turn_on p) (w.rebases + 1) t (sym turns) found in
          (ap (λ (u : Turn). u.content) same, ap (λ (u : Turn). u.log_length) same);
      live = λ none. absurd (omega (arith, above, none));
      turns = rw (ne_eqb w.number 0 (λ none. absurd (omega (arith, above, none)))) (omega (arith, turns, length-append w.turns (turn_on p ∷ [])));
    }

based_rebased : (emptied : Bool) (vs : List Workspace) (p w : Workspace) (es : List Entry) → LawfulSpace p → Over p w → workspace_of vs w.parent ≡ Some p → Based vs (rebased_with emptied p es w)
based_rebased emptied vs p w es l o found = record {
  parent = p;
  is = found;
  older = o.older;
  within = le_refl (length p.lists.log);
  before = λ i t turned. before t (turn_either w.turns (turn_on p) i t turned) (λ old. o.before i t old);
  alike = λ i t turned. alike t (turn_either w.turns (turn_on p) i t turned) (λ old. o.alike i t old);
}
  where
    before : {A : Type 0} (t : Turn) → A ⊎ (t ≡ turn_on p) → (A → (t.log_length ≤ w.from) × (t.rebases ≤ p.rebases)) → (t.log_length ≤ length p.lists.log) × (t.rebases ≤ p.rebases)
    before t (inl old) as_before = let h = as_before old in (omega (arith, h.0, o.within), h.1)
    before t (inr new) as_before = rw new (le_refl (length p.lists.log), le_refl p.rebases)

    alike : {A : Type 0} (t : Turn) → A ⊎ (t ≡ turn_on p) → (A → Alike t.content (point p t.log_length)) → Alike t.content (point p t.log_length)
    alike t (inl old) as_before = as_before old
    alike t (inr new) as_before = rw new (base_law p.lists.at_birth p.lists.base p.lists.own p.lists.log l.latest)

becomes_rebased : (emptied : Bool) (ws : List Workspace) (p w : Workspace) (es : List Entry) → LawfulSpaces ws → workspace_of ws w.number ≡ Some w
    → Becomes ws (with_space w.number (rebased_with emptied p es) ws) w.number w (rebased_with emptied p es w)
becomes_rebased emptied ws p w es l known = record {
  swap = swapped ws w.number (rebased_with emptied p es) w (λ _. refl) known;
  rebases = omega arith;
  children = λ m x above found here.
      let o = over_parent ws x w (l.bases m x above found) (ap (workspace_of ws) here ∙ known) in
      omega (arith, o.within, length-append w.lists.log es);
  points = λ i le under. point_longer w.lists.at_birth w.lists.log es i le;
}

-- the workspaces of which one is rebased on its parent, where it then holds what its log says
pub spaces_rebased : (emptied : Bool) (ws : List Workspace) (p w : Workspace) (es : List Entry) → LawfulSpaces ws → 0 < w.number → workspace_of ws w.number ≡ Some w → workspace_of ws w.parent ≡ Some p
    → Alike (content (rebased_with emptied p es w)) (w.lists.at_birth ++ (w.lists.log ++ es)) → LawfulSpaces (with_space w.number (rebased_with emptied p es) ws)
spaces_rebased emptied ws p w es l above known found alike =
    let act = rebased_with emptied p es in
    let vs = with_space w.number act ws in
    let b = becomes_rebased emptied ws p w es l known in
    let o = over_parent ws w p (l.bases w.number w above known) found in
    let parent : workspace_of vs w.parent ≡ Some p = b.swap.others w.parent (λ same. absurd (omega (arith, o.older, same))) ∙ found in
    spaces_become ws vs w.number w (act w) l b (differ-changed w.number act (λ _. refl) ws ∙ l.once) (space_rebased emptied p w es (l.each w.number w known) above alike)
    (λ _. based_rebased emptied vs p w es (l.each w.parent p found) o parent)

-- ---- entries

pub holds_rebased : (P : Entry → Type 0) (emptied : Bool) (p w : Workspace) (es : List Entry) → Holds P p → Holds P w → Each P es → Holds P (rebased_with emptied p es w)
holds_rebased P emptied p w es parent child each = record {
  at_birth = child.at_birth;
  base = taken;
  own = own emptied;
  log = each_append P w.lists.log es child.log each;
  marks = child.marks;
  turns = λ i t turned. turn i t (turn_either w.turns (turn_on p) i t turned);
}
  where
    taken : Each P (content p)
    taken = each_append P p.lists.base p.lists.own parent.base parent.own

    own : (b : Bool) → Each P (if b then [] else w.lists.own)
    own true = tt
    own false = child.own

    turn : (i : ℕ) (t : Turn) → (slice_get w.turns i ≡ Some t) ⊎ (t ≡ turn_on p) → Each P t.content
    turn i t (inl old) = child.turns i t old
    turn i t (inr new) = rw new taken
