-- What holds where nothing refuses a line.
use Rattle.std.proofs.Common.{◌≡◌, ◌+◌, ◌==◌, nat_le, nat_lt, Bool, true, false, ◌&&◌, if◌then◌else◌, List, ◌∷◌, Option, Some, None, is_some, refl, sym, ap, ◌∙◌, codes}
use Rattle.std.proofs.lemmas.Bool.{true≢false}
use Rattle.std.specs.List.{count_by, find}
use Rattle.std.specs.Str.{bytes_eq}
use Rattle.wm_base.proofs.Plain.{and_last}
use Rattle.wm_base.specs.declared.refusal.Refusal.{Refusal}
use Rattle.wm_graph.specs.Parts.{Parts, space_of}
use Rattle.wm_print.specs.Texts.{Answer, Refused}
use Rattle.wm_spec.specs.declared.record.savepoint.Savepoint.{Savepoint}
use Rattle.wm_spec.specs.declared.record.space.Space.{Space}
use Rattle.wm_state.specs.Drafts.{CanKeep}
use Rattle.wm_state.specs.Points.{implicit_of}
use Rattle.wm_state.specs.Standing.{saved_in}
use Rattle.wm_state.specs.State.{Session}
use Rattle.wm_model.specs.Merged.{Clashed, clash_fault, is_even_at, keeping_refusal, leaving_refusal, merge_lock_refusal, merging_refusal, naming_refusal, rebase_fault, refreshing_refusal}
use Rattle.wm_model.specs.Undone.{resolving_refusal}
use Rattle.wm_model.specs.Step.{Asked, at_its_end, first_fault, most_savepoints, number_limit, refused_if, savepoint_there}
use Rattle.wm_spec.specs.Lists.{Entry}

-- ---- one refusal behind another

none_first : (o : Option Refusal) (os : List (Option Refusal)) → first_fault (o ∷ os) ≡ None → o ≡ None
none_first None os none = refl
none_first (Some x) os none = cc

none_behind : (o : Option Refusal) (os : List (Option Refusal)) → first_fault (o ∷ os) ≡ None → first_fault os ≡ None
none_behind None os none = none
none_behind (Some x) os none = cc

not_refused : (b : Bool) (refusal : Refusal) → (if b then Some refusal else None) ≡ None → b ≡ false
not_refused false refusal none = refl
not_refused true refusal none = cc

some_answer : (b : Bool) (answer : Answer) (refusal : Refusal) → answer ≡ Refused refusal → refused_if b answer ≡ None → b ≡ false
some_answer b answer refusal is none = not_refused b refusal (sym (ap (refused_if b) is) ∙ none)

-- ---- a refresh

pub rebases_left : (a : Space) → rebase_fault a ≡ None → nat_lt number_limit (a.rebases + 1) ≡ false
rebases_left a clear = some_answer (nat_lt number_limit (a.rebases + 1)) (at_its_end (codes "REBASE")) _ refl clear

pub refresh_left : (p : Parts) (xs : List Session) (a : Space) (found : Option Clashed) → refreshing_refusal p xs a found ≡ None → nat_lt number_limit (a.rebases + 1) ≡ false
refresh_left p xs a found clear = rebases_left a (none_first (rebase_fault a) _ (none_behind (clash_fault p found) _ (none_behind (resolving_refusal xs a) _ clear)))

-- ---- a merge

-- each thing that a merge may be refused for
pub record MergeClear (asked : Asked) (p : Parts) (xs : List Session) (a b : Space) (own : List Entry) : Type 0 where
  pub naming : naming_refusal asked.keeps p b ≡ None
  pub leaving : leaving_refusal asked.removes p xs a ≡ None
  pub resolving : resolving_refusal xs a ≡ None
  pub keeping : keeping_refusal asked.keeps p b ≡ None
  pub rebasing : (if is_even_at a b own then None else rebase_fault a) ≡ None

pub merge_clear : (session : Session) (asked : Asked) (p : Parts) (xs : List Session) (a b : Space) (found : Option Clashed) (own : List Entry) → merging_refusal session asked p xs a b found own ≡ None → MergeClear asked p xs a b own
merge_clear session asked p xs a b found own clear =
    let h = none_behind (naming_refusal asked.keeps p b) _ clear in
    let k = none_behind (leaving_refusal asked.removes p xs a) _ h in
    let s = none_behind (resolving_refusal xs a) _ k in
    let l = none_behind (clash_fault p found) _ s in
    let t = none_behind (merge_lock_refusal session p a b own) _ l in
    let r = none_behind (keeping_refusal asked.keeps p b) _ t in
    record {
      naming = none_first (naming_refusal asked.keeps p b) _ clear;
      leaving = none_first (leaving_refusal asked.removes p xs a) _ h;
      resolving = none_first (resolving_refusal xs a) _ k;
      keeping = none_first (keeping_refusal asked.keeps p b) _ t;
      rebasing = none_first (if is_even_at a b own then None else rebase_fault a) _ r;
    }

-- where something is merged or pending, the workspace may be rebased once more
pub merge_left : (a b : Space) (own : List Entry) → (if is_even_at a b own then None else rebase_fault a) ≡ None → is_even_at a b own ≡ false → nat_lt number_limit (a.rebases + 1) ≡ false
merge_left a b own clear odd = rebases_left a (sym (ap (λ (e : Bool). if e then None else rebase_fault a) odd) ∙ clear)

-- where the parent is kept first, it has room
pub can_keep : (keeps : Bool) (p : Parts) (b : Space) → space_of p.spaces b.number ≡ Some b → naming_refusal keeps p b ≡ None → keeping_refusal keeps p b ≡ None → keeps ≡ true → CanKeep p b.number
can_keep keeps p b there naming keeping asked =
    let few = none_behind (refused_if (keeps && nat_le 4096 (count_by (λ (x : Savepoint). x.space == b.number) p.savepoints)) most_savepoints) _ keeping in
    let names = none_behind (refused_if (keeps && nat_lt number_limit (b.next_place + 1)) (at_its_end (codes "PLACE"))) _ few in
    record {
      space = b;
      there = there;
      room = record {
        new = unfound (find (λ (x : Savepoint). bytes_eq (implicit_of b) x.name) (saved_in p b.number))
            (and_last keeps _ asked (some_answer (keeps && is_some (find (λ (x : Savepoint). bytes_eq (implicit_of b) x.name) (saved_in p b.number))) (savepoint_there (implicit_of b)) _ refl naming));
        few = and_last keeps _ asked (some_answer (keeps && nat_le 4096 (count_by (λ (x : Savepoint). x.space == b.number) p.savepoints)) most_savepoints _ refl (none_first _ _ keeping));
      };
      places = and_last keeps _ asked (some_answer (keeps && nat_lt number_limit (b.next_place + 1)) (at_its_end (codes "PLACE")) _ refl (none_first _ _ few));
      implicits = and_last keeps _ asked (some_answer (keeps && nat_lt number_limit (b.next_implicit + 1)) (at_its_end (codes "ICP")) _ refl (none_first _ _ names));
    }
  where
    unfound : (o : Option Savepoint) → is_some o ≡ false → o ≡ None
    unfound None none = refl
    unfound (Some x) none = absurd (true≢false none)
