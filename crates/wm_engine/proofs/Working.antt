-- An engine that works over a station, and what its file stands for.
use Rattle.std.proofs.Common.{◌≡◌, ℕ, List, [], subst}
use Rattle.wm_graph.specs.Parts.{parts_of}
use Rattle.wm_model.specs.Lawful.{Lawful}
use Rattle.wm_model.specs.Planning.{StandsAt}
use Rattle.wm_model.proofs.Lawful.Runs.{lawful_durable}
use Rattle.wm_spec.specs.declared.record.stored.Stored.{Stored}
use Rattle.wm_state.specs.State.{State}
use Rattle.wm_state.specs.Standing.{Stands}
use Rattle.wm_station.specs.History.{History, Said}
use Rattle.wm_station.specs.Moments.{Holds}
use Rattle.wm_store.proofs.Holding.{store_said}
use Rattle.wm_engine.proofs.Committing.{holds_weaken}
use Rattle.wm_engine.specs.Lines.{LineDone, LineKeeps}
use Rattle.wm_engine.specs.Working.{Engaged, FileStands, HoldsSorted, StandsFor, WorksOver}
use Rattle.wm_engine.specs.declared.reply.Reply.{Reply}

-- a file that holds records stands for the lawful states for which they stand
pub file_stands : (file : List ℕ) (rs : List Stored) (s : State) → HoldsSorted file rs → Stands (parts_of rs) s.durable → Lawful s.durable [] → FileStands file s
file_stands file rs s holds stands lawful = record { records = holds.records; held = holds.held; stands = subst (λ xs. Stands (parts_of xs) s.durable) holds.same stands; lawful = lawful }

-- what a read gives, and each file that a crash may leave, stands for what the engine stands for
pub stands_over : (e : Engaged) (h : History) (s : State) → WorksOver e h → StandsFor e s → Holds h (λ file. FileStands file s)
stands_over e h s works for = holds_weaken h (λ file. HoldsSorted file e.records) (λ file. FileStands file s) (λ file holds. file_stands file e.records s holds for.stands (lawful_durable s for.lawful)) works.holds

-- what is said changes nothing of the file
pub works_said : (e : Engaged) (h : History) (piece : List ℕ) (n : ℕ) → WorksOver e h → WorksOver e (Said h piece n)
works_said e h piece n works = record {
  store_is = store_said e.store h piece n works.store_is;
  holds = record { here = works.holds.here; left = λ c leaves. works.holds.left c leaves };
}

-- the engine stands for a state where its records, its sessions and its moment do
pub stands_at : (e : Engaged) (s : State) → StandsFor e s → StandsAt e.records e.sessions e.moment s
stands_at e s for = record { stands = for.stands; lawful = for.lawful; sessions_are = for.sessions; moment_is = for.moment; staged = for.staged }

pub stands_for : (e : Engaged) (s : State) → StandsAt e.records e.sessions e.moment s → StandsFor e s
stands_for e s st = record { stands = st.stands; lawful = st.lawful; sessions = st.sessions_are; moment = st.moment_is; staged = st.staged }

-- what was done to one of two engines that are the same was done to the other
pub done_same : (tells : Type 0) (line : List ℕ) (from from' to to' : Engaged) (old new : History) (reply : Reply) → LineDone tells line from to old new reply → from ≡ from' → to ≡ to' → LineDone tells line from' to' old new reply
done_same tells line from from' to to' old new reply done is_from is_to =
    subst (λ (e : Engaged). LineDone tells line from' e old new reply) is_to (subst (λ (e : Engaged). LineDone tells line e to old new reply) is_from done)

pub keeps_same : (tells : Type 0) (line : List ℕ) (from from' : Engaged) (old new : History) → LineKeeps tells line from old new → from ≡ from' → LineKeeps tells line from' old new
keeps_same tells line from from' old new keeps is = subst (λ (e : Engaged). LineKeeps tells line e old new) is keeps
