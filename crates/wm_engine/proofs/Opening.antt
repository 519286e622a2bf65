-- What a store that was opened stands for.
use Rattle.std.proofs.Common.{◌≡◌, ℕ, ◌<◌, ◌&&◌, nat_lt, nat_le, ◌+◌, ◌^◌, max, true, false, List, [], ◌∷◌, Result, Ok, refl, sym, ap, subst, ◌∙◌, arith}
use Rattle.std.proofs.lemmas.Bool.Decides.{nat_tests}
use Rattle.std.proofs.lemmas.List.Elements.{All-nil}
use Rattle.std.proofs.lemmas.Bool.{and_parts}
use Rattle.wm_faults.specs.declared.fault.Damage.{Damage}
use Rattle.wm_faults.specs.declared.fault.Damage.TheVariants.{Graph}
use Rattle.wm_faults.specs.declared.fault.OpenFault.TheVariants.{Damaged}
use Rattle.wm_base.specs.declared.instant.TheConstants.{END}
use Rattle.wm_decided.specs.Staged.{AreStaged, IsStagedResolve}
use Rattle.wm_graph.specs.Parts.{Parts, parts_of}
use Rattle.wm_graph.specs.Rules.{keep_rules, are_counters}
use Rattle.wm_journal.specs.Disk.{is_made}
use Rattle.wm_model.specs.Lawful.{Lawful, LawfulState}
use Rattle.wm_spec.specs.Records.{AreRecords}
use Rattle.wm_spec.specs.declared.record.counters.Counters.{Counters}
use Rattle.wm_spec.specs.declared.record.stored.Stored.{Stored}
use Rattle.wm_state.proofs.Apart.{ruled}
use Rattle.wm_state.specs.ById.{by_id}
use Rattle.wm_state.specs.State.{Session, State, begin}
use Rattle.wm_state.specs.Standing.{Stands}
use Rattle.wm_store.proofs.Distinct.{held_differ}
use Rattle.wm_store.specs.Opened.{Held, opened}
use Rattle.wm_engine.specs.Working.{FileStands, damage_in}

-- records that break a rule are damage
pub breaks : (file : List ℕ) (records : List Stored) → Held records file → (AreRecords records → keep_rules (parts_of (by_id records)) ≡ false) → (is_made file ≡ true) × damage_in (opened file) (Damaged 0 Graph)
breaks file records held broken = (held.made, subst (λ (r : Result (List Stored) (ℕ × Damage)). damage_in r (Damaged 0 Graph)) (sym held.opens) (broken (held_differ records file held), refl))

first_counters : (b d : Counters) → (b ∷ []) ≡ (d ∷ []) → b ≡ d
first_counters b d e = cc

-- the later of two moments before the end
max_before : (m n : ℕ) → m < END → nat_lt n END ≡ true → max m n < END
max_before m n lt e = grind (arith, nat_tests, lt, e)

-- a run begins before the end of time
pub begins_before : (rs : List Stored) (c : Counters) (m : ℕ) → keep_rules (parts_of rs) ≡ true → (parts_of rs).counters ≡ c ∷ [] → m < END → max m c.last_moment < END
begins_before rs c m rules one lt = max_before m c.last_moment lt (and_parts (nat_lt c.last_moment END) (nat_le c.work (2 ^ 62) && nat_le c.next_version (c.work + 2)) (and_parts _ (nat_lt c.last_moment END && (nat_le c.work (2 ^ 62) && nat_le c.next_version (c.work + 2))) counted).1).0
  where
    counted : are_counters c ≡ true
    counted = let r = ruled (parts_of rs) rules in ap are_counters (sym (first_counters r.counters c (sym r.one ∙ one))) ∙ r.counted

-- the records of a file are these alone
same_records : (file : List ℕ) (a b : List Stored) → Held a file → Held b file → a ≡ b
same_records file a b one two = ok_same (sym one.opens ∙ two.opens)
  where
    ok_same : ◌≡◌ {A = Result (List Stored) (ℕ × Damage)} (Ok a) (Ok b) → a ≡ b
    ok_same e = cc

pub opens_stand : (file : List ℕ) (records rs : List Stored) (m : ℕ) (s : State) → Held records file → rs ≡ by_id records → FileStands file s → Stands (parts_of rs) (begin s m).durable
unfolding begin
opens_stand file records rs m s held same stands =
    subst (λ xs. Stands (parts_of xs) s.durable) (ap by_id (same_records file stands.records records stands.held held) ∙ sym same) stands.stands

-- no session stands anywhere
pub opens_lawful : (m : ℕ) (s : State) → Lawful s.durable [] → LawfulState (begin s m)
unfolding begin
opens_lawful m s lawful = record { durable = lawful; seats = tt }

pub opens_at : (file : List ℕ) (records rs : List Stored) (c : Counters) (m : ℕ) (s : State) → Held records file → rs ≡ by_id records → (parts_of rs).counters ≡ c ∷ [] → FileStands file s → max m c.last_moment ≡ (begin s m).moment
unfolding begin
opens_at file records rs c m s held same one stands =
    let st : Stands (parts_of rs) s.durable = subst (λ xs. Stands (parts_of xs) s.durable) (ap by_id (same_records file stands.records records stands.held held) ∙ sym same) stands.stands in
    ap (max m) (ap (λ (k : Counters). k.last_moment) (first_counters c st.counters.counters (sym one ∙ st.counters.one)) ∙ st.counters.last_moment)

pub opens_none : (m : ℕ) (s : State) → [] ≡ (begin s m).sessions
unfolding begin
opens_none m s = refl

-- and nothing is staged
pub opens_staged : (p : Parts) (xs : List Session) → xs ≡ [] → AreStaged p xs
opens_staged p xs none = subst (λ (ys : List Session). AreStaged p ys) (sym none) (All-nil (λ (x : Session). IsStagedResolve p x.resolve))
