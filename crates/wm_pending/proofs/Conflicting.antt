-- All stretches of conflict of a table, key by key.
use Rattle.std.proofs.Common.{◌≡◌, ℕ, ◌+◌, ◌<◌, ◌≤◌, Bool, true, false, cond, ◌==◌, List, [], ◌∷◌, ◌++◌, map, length, take, get_or, Option, None, refl, sym, ap, ◌∙◌, subst, arith, append_assoc, eq-eqb}
use Rattle.std.proofs.lemmas.List.{append-nil, map-append, take_all}
use Rattle.wm_graph.specs.Parts.{Parts}
use Rattle.wm_net.proofs.Owing.{lists_all, lists_more}
use Rattle.wm_net.specs.Conflicts.{Stamps, grouped, in_table, same_stamps}
use Rattle.wm_net.specs.Groups.{Group, cell, has_group}
use Rattle.wm_net.specs.Listed.{IsBlock, ListsGroups, Stretch}
use Rattle.wm_spec.specs.Lists.{Cell}
use Rattle.wm_spec.specs.declared.record.space.Space.{Space}
use Rattle.wm_telling.specs.Telling.{AreOwn, clash_held, own_held}
use Rattle.wm_pending.proofs.Chaining.{AreFirsts, Lists, first_alike, firsts_list, firsts_more}
use Rattle.wm_pending.proofs.Clashing.{no_own, same_clash}
use Rattle.wm_pending.proofs.Looking.{groups_own}
use Rattle.wm_pending.proofs.Netted.{groups_at, groups_more, held_of}
use Rattle.wm_pending.specs.Clashes.{AreConflicts, GainsBlock, asked_in, conflict_pair}
use Rattle.wm_pending.specs.Lookups.{group_own}
use Rattle.wm_pending.specs.Owned.{key_pieces}
use Rattle.wm_pending.specs.Sides.{asked_clash, asked_of, contest_at, stamps_in}
use Rattle.wm_pending.specs.Walks.{IsNext, IsReady, left_in}
use Rattle.wm_pending.specs.declared.clash.Asked.{Asked}
use Rattle.wm_pending.specs.declared.clash.Conflict.{Conflict}
use Rattle.wm_pending.specs.declared.own.OwnKey.{OwnKey}
use Rattle.wm_pending.specs.declared.sides.Sides.{Sides}
use Rattle.wm_pending.specs.declared.walk.Walk.{Walk}

-- ---- one key

-- conflicts that were found on a walk up to where it stands
pub record Walked (f : ℕ → Option Stamps) (g : Group) (table : ℕ) (old now : List Conflict) (walk : Walk) : Type 0 where
  pub stretches : List (Stretch Stamps)
  pub firsts : AreFirsts f 0 stretches walk.at
  pub ready : IsReady walk
  pub contests : (t : ℕ) → walk.at ≤ t → contest_at (left_in walk) t ≡ f t
  pub is : map (conflict_pair table) now ≡ map (conflict_pair table) old ++ map (grouped g) stretches

pub walked_none : (f : ℕ → Option Stamps) (g : Group) (table : ℕ) (old : List Conflict) (walk : Walk) → IsReady walk → walk.at ≡ 0 → ((t : ℕ) → contest_at (left_in walk) t ≡ f t) → Walked f g table old old walk
walked_none f g table old walk ready begins same = record {
  stretches = [];
  firsts = sym begins;
  ready = ready;
  contests = λ t le. same t;
  is = sym (append-nil (map (conflict_pair table) old));
}

-- one more
pub walked_more : (f : ℕ → Option Stamps) (g : Group) (table : ℕ) (old now new : List Conflict) (walk rest : Walk) (c : Conflict) (x : Stretch Stamps) → Walked f g table old now walk → IsNext walk x rest
    → conflict_pair table c ≡ grouped g x → new ≡ now ++ c ∷ [] → Walked f g table old new rest
walked_more f g table old now new walk rest c x so next made more =
    let begins : walk.at ≤ x.from = next.first.begins in
    let real : x.from < x.till = next.first.real in
    let at : rest.at ≡ x.till = next.goes.is in
    record {
      stretches = so.stretches ++ x ∷ [];
      firsts = subst (λ (t : ℕ). AreFirsts f 0 (so.stretches ++ x ∷ []) t) (sym at)
          (firsts_more f 0 so.stretches walk.at x so.firsts (first_alike (contest_at (left_in walk)) f walk.at x so.contests next.first));
      ready = next.goes.ready;
      contests = λ t le. next.goes.contests t (omega (arith, at, le)) ∙ so.contests t (omega (arith, at, le, begins, real));
      is =
          ap (map (conflict_pair table)) more
          ∙ map-append (conflict_pair table) now (c ∷ [])
          ∙ ap (λ (l : List (Group × Stretch Stamps)). l ++ conflict_pair table c ∷ []) so.is
          ∙ ap (λ (y : Group × Stretch Stamps). (map (conflict_pair table) old ++ map (grouped g) so.stretches) ++ y ∷ []) made
          ∙ append_assoc (map (conflict_pair table) old) (map (grouped g) so.stretches) (grouped g x ∷ [])
          ∙ ap (λ (l : List (Group × Stretch Stamps)). map (conflict_pair table) old ++ l) (sym (map-append (grouped g) so.stretches (x ∷ [])));
    }

-- a conflict of a key of the table
pub pair_made : (k : OwnKey) (table : ℕ) (c : Conflict) → k.table ≡ table → c.key ≡ k.key → conflict_pair table c ≡ grouped (group_own k) (record { from = c.period.from; till = c.period.till; value = stamps_in c.stamps })
pair_made k table c is copied = λ i. (record { table = sym is i; key = copied i }, record { from = c.period.from; till = c.period.till; value = stamps_in c.stamps })

-- what is in conflict of a key of the table
in_it : (p : Parts) (q : Asked) (k : OwnKey) (table t : ℕ) → k.table ≡ table → asked_in p q table k (cell (group_own k) t) ≡ asked_clash p q k t
in_it p q k table t is = ap (λ b. cond b (asked_clash p q k t) None) (eq-eqb k.table table is)

-- all of them
pub walked_all : (f : ℕ → Option Stamps) (g : Group) (table : ℕ) (old now : List Conflict) (walk : Walk) → Walked f g table old now walk → ((t : ℕ) → walk.at ≤ t → contest_at (left_in walk) t ≡ None)
    → GainsBlock (λ (c : Cell). f c.time) g table old now
walked_all f g table old now walk so none =
    let list : Lists f 0 so.stretches = firsts_list f 0 so.stretches walk.at so.firsts (λ t le. sym (so.contests t le) ∙ none t le) in
    record { stretches = so.stretches; block = record { ordered = list.ordered; joined = list.joined; holds = λ t. list.holds t (omega arith) }; is = so.is }

-- what the sides of a key tell is what is asked of it
pub told_block : (p : Parts) (q : Asked) (k : OwnKey) (s : Sides) (table : ℕ) (old now : List Conflict) → k.table ≡ table → ((t : ℕ) → contest_at s t ≡ asked_clash p q k t)
    → GainsBlock (λ (c : Cell). contest_at s c.time) (group_own k) k.table old now → GainsBlock (asked_in p q table k) (group_own k) table old now
told_block p q k s table old now is told so =
    subst (λ (n : ℕ). GainsBlock (asked_in p q n k) (group_own k) n old now) is
    (record {
      stretches = so.stretches;
      block = record { ordered = so.block.ordered; joined = so.block.joined; holds = λ t. so.block.holds t ∙ told t ∙ sym (in_it p q k k.table t refl) };
      is = so.is;
    })

-- ---- all keys

-- those of a key more
pub conflicts_more : (p : Parts) (a b : Space) (ks : List OwnKey) (i : ℕ) (k : OwnKey) (q : Asked) (table : ℕ) (old new : List Conflict) → i < length ks → k ≡ get_or ks i k → AreOwn p a (map key_pieces ks) → q ≡ asked_of p a b
    → ListsGroups same_stamps grouped (in_table table (clash_held p a b)) (groups_at (take i ks)) (map (conflict_pair table) old) → GainsBlock (asked_in p q table k) (group_own k) table old new
    → ListsGroups same_stamps grouped (in_table table (clash_held p a b)) (groups_at (take (i + 1) ks)) (map (conflict_pair table) new)
conflicts_more p a b ks i k q table old new within is own asked so gains =
    subst (λ (gs : List Group). ListsGroups same_stamps grouped (in_table table (clash_held p a b)) gs (map (conflict_pair table) new)) (sym (groups_more ks i k within is))
    (subst (λ (xs : List (Group × Stretch Stamps)). ListsGroups same_stamps grouped (in_table table (clash_held p a b)) (groups_at (take i ks) ++ group_own k ∷ []) xs) (sym gains.is)
    (lists_more same_stamps grouped (in_table table (clash_held p a b)) (groups_at (take i ks)) (map (conflict_pair table) old) (group_own k) gains.stretches so block))
  where
    agree : (t : ℕ) → asked_in p q table k (cell (group_own k) t) ≡ in_table table (clash_held p a b) (cell (group_own k) t)
    agree t =
        ap (λ (o : Option Stamps). cond (k.table == table) o None)
        (ap (λ (x : Asked). asked_clash p x k t) asked ∙ same_clash p a b k (held_of (own_held p a) ks i k within is own.copied.each) t)

    block : IsBlock same_stamps (in_table table (clash_held p a b)) (record { group = group_own k; stretches = gains.stretches })
    block = record { ordered = gains.block.ordered; joined = gains.block.joined; holds = λ t. gains.block.holds t ∙ agree t }

nothing : (b : Bool) (o : Option Stamps) → o ≡ None → cond b o None ≡ None
nothing true o e = e
nothing false o e = refl

-- all of them
pub conflicts_all : (p : Parts) (a b : Space) (ks : List OwnKey) (i : ℕ) (table : ℕ) (cs : List Conflict) → length ks ≤ i → AreOwn p a (map key_pieces ks)
    → ListsGroups same_stamps grouped (in_table table (clash_held p a b)) (groups_at (take i ks)) (map (conflict_pair table) cs) → AreConflicts p a b table cs
conflicts_all p a b ks i table cs past own so =
    lists_all same_stamps grouped (in_table table (clash_held p a b)) (groups_at ks) (map (conflict_pair table) cs)
    (subst (λ (ls : List OwnKey). ListsGroups same_stamps grouped (in_table table (clash_held p a b)) (groups_at ls) (map (conflict_pair table) cs)) (take_all i ks past) so)
    own.ascend
    (λ g none t. nothing (g.table == table) (clash_held p a b (cell g t)) (no_own p a b ks g own (ap (λ (gs : List Group). has_group g gs) (sym (groups_own ks)) ∙ none) t))
