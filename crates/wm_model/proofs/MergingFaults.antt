-- What MergeWorkspace is refused for, by the records.
use Rattle.std.proofs.Common.{arith, suc, ◌++◌, ◌≡◌, ℕ, ◌+◌, ◌==◌, ◌&&◌, not, nat_le, nat_lt, length, Bool, true, false, if◌then◌else◌, List, [], ◌∷◌, map, Option, Some, None, is_some, refl, sym, ap, ◌∙◌, codes}
use Rattle.std.specs.Fmt.{decimal}
use Rattle.std.specs.List.{count_by, find}
use Rattle.std.specs.Str.{bytes_eq}
use Rattle.wm_graph.specs.Parts.{parts_of}
use Rattle.wm_net.specs.Nets.{net}
use Rattle.wm_outline.proofs.Outlines.{outline_is}
use Rattle.wm_outline.specs.Outline.{outline}
use Rattle.wm_spec.specs.Lists.{Entry}
use Rattle.wm_spec.specs.declared.record.savepoint.Savepoint.{Savepoint as Record}
use Rattle.wm_spec.specs.declared.record.space.Space.{Space}
use Rattle.wm_spec.specs.declared.record.stored.Stored.{Stored}
use Rattle.wm_state.specs.Editing.{implicit_front, implicit_name}
use Rattle.wm_state.specs.Points.{implicit_of}
use Rattle.wm_state.specs.Standing.{SpaceFields, saved_in}
use Rattle.wm_state.specs.State.{Session, State, savepoint_named}
use Rattle.wm_forked.proofs.Points.{few_same, name_free, name_taken}
use Rattle.wm_telling.specs.Telling.{IsHeldListing, own_held}
use Rattle.wm_telling.proofs.Relisting.{empty_own, own_empty}
use Rattle.wm_model.specs.Merged.{Clashed, IsClash, is_even_at, is_quiet_at, keeping_refusal, leaving_refusal, merge_lock_refusal, merging_refusal, naming_refusal, rebase_fault}
use Rattle.wm_model.specs.Planning.{StandsAt}
use Rattle.wm_model.specs.Step.{Asked, Claim, at_its_end, cells_of, first_fault, is_even, keeping_faults, leaving_faults, lock_fault, merge_lock_fault, merging_faults, most_savepoints, number_limit, refused_if, resolving_fault, savepoint_there}
use Rattle.wm_model.specs.Undone.{going_refusal, resolving_refusal}
use Rattle.wm_model.proofs.Families.{Family, conflict_same, own_same, quiet_same}
use Rattle.wm_model.proofs.MergedLocks.{lock_fault-alike}
use Rattle.wm_model.proofs.Recorded.{going_same, resolving_same}

module _ (rs : List Stored) (workspace : List ℕ) (a b : Space) (xs : List Session) (m : ℕ) (s : State) (st : StandsAt rs xs m s) (f : Family rs workspace a b s) where
  -- the name of the implicit savepoint that comes next in the parent
  implicit_same : implicit_name f.q ≡ implicit_of b
  implicit_same = ap (λ (x : SpaceFields). implicit_front ++ decimal x.next_implicit) (sym f.above.fields)

  -- a savepoint of the parent has a name where its record does
  named_same : (name : List ℕ) → is_some (savepoint_named name f.q.savepoints) ≡ is_some (find (λ (x : Record). bytes_eq name x.name) (saved_in (parts_of rs) b.number))
  named_same name = by_record (find (λ (x : Record). bytes_eq name x.name) (saved_in (parts_of rs) b.number)) refl
    where
      by_record : (o : Option Record) → find (λ (x : Record). bytes_eq name x.name) (saved_in (parts_of rs) b.number) ≡ o → is_some (savepoint_named name f.q.savepoints) ≡ is_some o
      by_record None none = name_free (parts_of rs) s.durable b f.q name st.stands f.above none
      by_record (Some y) found = name_taken (parts_of rs) s.durable b f.q name y st.stands f.above found

  naming_same : (keeps : Bool) → refused_if (keeps && is_some (savepoint_named (implicit_name f.q) f.q.savepoints)) (savepoint_there (implicit_name f.q)) ≡ naming_refusal keeps (parts_of rs) b
  naming_same keeps =
      ap (λ name. refused_if (keeps && is_some (savepoint_named name f.q.savepoints)) (savepoint_there name)) implicit_same
      ∙ ap (λ t. refused_if (keeps && t) (savepoint_there (implicit_of b))) (named_same (implicit_of b))

  leaving_same : (removes : Bool) → first_fault (leaving_faults removes s f.w) ≡ leaving_refusal removes (parts_of rs) xs a
  leaving_same true = going_same rs xs m a s st f.w f.is ∙ ap (λ ys. going_refusal (parts_of rs) ys a) (sym st.sessions_are)
  leaving_same false = refl

  open_same : resolving_fault s f.w ≡ resolving_refusal xs a
  open_same = resolving_same (parts_of rs) a s f.w f.is ∙ ap (λ ys. resolving_refusal ys a) (sym st.sessions_are)

  keeping_same : (keeps : Bool) → first_fault (keeping_faults keeps f.q) ≡ keeping_refusal keeps (parts_of rs) b
  keeping_same keeps =
      ap (λ t. first_fault (refused_if (keeps && t) most_savepoints ∷ refused_if (keeps && nat_lt number_limit (f.q.next_place + 1)) (at_its_end (codes "PLACE")) ∷ refused_if (keeps && nat_lt number_limit (f.q.next_implicit + 1)) (at_its_end (codes "ICP")) ∷ []))
      (few_same (parts_of rs) s.durable b f.q (nat_le 4096 (count_by (λ (x : Record). x.space == b.number) (parts_of rs).savepoints)) st.stands f.above refl)
      ∙ ap (λ (x : SpaceFields). first_fault (refused_if (keeps && nat_le 4096 (count_by (λ (y : Record). y.space == b.number) (parts_of rs).savepoints)) most_savepoints
      ∷ refused_if (keeps && nat_lt number_limit (x.next_place + 1)) (at_its_end (codes "PLACE"))
      ∷ refused_if (keeps && nat_lt number_limit (x.next_implicit + 1)) (at_its_end (codes "ICP"))
      ∷ [])) (sym f.above.fields)

  -- nothing is to be merged and nothing is pending, where the listing of what is own is empty and the parent is quiet
  pub even_same : (k : ℕ) (user : List ℕ) (own : List Entry) → IsHeldListing (parts_of rs) k user (own_held (parts_of rs) a) own → is_even f.q f.w ≡ is_even_at a b own
  even_same k user own listed =
      ap (λ t. (length f.w.lists.own == 0) && t) (quiet_same rs workspace a b s f)
      ∙ ap (λ t. t && is_quiet_at a b) (by_lists f.w.lists.own own
      (λ none. own_empty (parts_of rs) s.durable a.number f.w a k user f.tells own st.stands f.is.found f.is.recorded listed f.own none)
      (λ none. empty_own (parts_of rs) s.durable a.number f.w a k user f.tells own st.stands f.is.found f.is.recorded listed f.own none))
    where
      by_lists : (es ns : List Entry) → (es ≡ [] → ns ≡ []) → (ns ≡ [] → es ≡ []) → (length es == 0) ≡ (length ns == 0)
      by_lists [] [] to from = refl
      by_lists (e ∷ es) [] to from = ap (λ (xs : List Entry). length xs == 0) (from refl)
      by_lists [] (n ∷ ns) to from = sym (ap (λ (xs : List Entry). length xs == 0) (to refl))
      by_lists (e ∷ es) (n ∷ ns) to from = some (length es) ∙ sym (some (length ns))
        where
          some : (n : ℕ) → (suc n == 0) ≡ false
          some n = grind arith

  rebasing_same : (even : Bool) → is_even f.q f.w ≡ even → refused_if (not (is_even f.q f.w) && nat_lt number_limit (f.w.rebases + 1)) (at_its_end (codes "REBASE")) ≡ (if even then None else rebase_fault a)
  rebasing_same even is = ap (λ t. refused_if (not t && nat_lt number_limit (f.w.rebases + 1)) (at_its_end (codes "REBASE"))) is ∙ by_test even
    where
      by_test : (t : Bool) → refused_if (not t && nat_lt number_limit (f.w.rebases + 1)) (at_its_end (codes "REBASE")) ≡ (if t then None else rebase_fault a)
      by_test true = refl
      by_test false = ap (λ (x : SpaceFields). refused_if (nat_lt number_limit (x.rebases + 1)) (at_its_end (codes "REBASE"))) (sym f.is.fields)

  -- a lock that bars what is own
  lock_same : (session : Session) (own : List Entry) → IsHeldListing (parts_of rs) m session.user (own_held (parts_of rs) a) own → merge_lock_fault session s f.q f.w ≡ merge_lock_refusal session (parts_of rs) a b own
  lock_same session own listed =
      ap (λ k. lock_fault (outline s) (claim f.q.number f.w.number) (map cells_of (net k session.user f.w.lists.own))) (sym st.moment_is)
      ∙ ap (λ es. lock_fault (outline s) (claim f.q.number f.w.number) (map cells_of es)) (sym (own_same rs workspace a b s f m session.user own listed))
      ∙ ap (λ n. lock_fault (outline s) (claim n f.w.number) (map cells_of own)) f.above.number
      ∙ ap (λ n. lock_fault (outline s) (claim b.number n) (map cells_of own)) f.is.number
      ∙ ap (λ o. lock_fault o (claim b.number a.number) (map cells_of own)) (sym (outline_is (parts_of rs) xs m s st.stands st.sessions_are st.moment_is))
      ∙ lock_fault-alike (parts_of rs) xs [] m 0 (claim b.number a.number) (map cells_of own)
    where
      claim : ℕ → ℕ → Claim
      claim parent n = record { space = parent; user = session.user; except = Some n }

  -- all of it, fault by fault
  pub merging_same : (session : Session) (asked : Asked) (found : Option Clashed) (own : List Entry) → IsClash (parts_of rs) a b found → IsHeldListing (parts_of rs) m session.user (own_held (parts_of rs) a) own
      → first_fault (merging_faults session asked s f.q f.w) ≡ merging_refusal session asked (parts_of rs) xs a b found own
  merging_same session asked found own clash listed = λ i.
      first_fault
      (naming_same asked.keeps i
      ∷ leaving_same asked.removes i
      ∷ open_same i
      ∷ conflict_same rs workspace a b s f found clash i
      ∷ lock_same session own listed i
      ∷ keeping_same asked.keeps i
      ∷ rebasing_same (is_even_at a b own) (even_same m session.user own listed) i
      ∷ [])
