-- What an engine and a file stand for.
use Rattle.std.specs.Prelude.{◌≡◌, ℕ, true, false, List, [], Result, Ok, Err}
use Rattle.wm_faults.specs.declared.fault.Damage.{Damage}
use Rattle.wm_faults.specs.declared.fault.Damage.TheVariants.{Graph}
use Rattle.wm_faults.specs.declared.fault.OpenFault.{OpenFault}
use Rattle.wm_faults.specs.declared.fault.OpenFault.TheVariants.{Disk, NotStore, Damaged, Memory}
use Rattle.wm_faults.specs.declared.fault.StoreFault.{StoreFault}
use Rattle.wm_faults.specs.declared.fault.StoreFault.TheVariants as storing
use Rattle.wm_decided.specs.Staged.{AreStaged}
use Rattle.wm_graph.specs.Parts.{parts_of}
use Rattle.wm_graph.specs.Rules.{keep_rules}
use Rattle.wm_journal.specs.Disk.{is_made}
use Rattle.wm_model.specs.Lawful.{Lawful, LawfulState}
use Rattle.wm_state.specs.State.{State, Session}
use Rattle.wm_state.specs.ById.{by_id}
use Rattle.wm_state.specs.Standing.{Stands}
use Rattle.wm_spec.specs.declared.record.stored.Stored.{Stored}
use Rattle.wm_station.specs.History.{History}
use Rattle.wm_station.specs.Moments.{Holds}
use Rattle.wm_store.specs.Opened.{Held, opened}
use Rattle.wm_store.specs.Stores.{IsStoreOf}
use Rattle.wm_store.specs.declared.store.Store.{Store}
use Rattle.wm_engine.specs.declared.fault.LineFault.{LineFault}
use Rattle.wm_engine.specs.declared.fault.LineFault.TheVariants as faults

-- what is seen of an engine: its store, the records that it keeps in the order of their ids, the sessions, the moment
pub record Engaged : Type 0 where
  pub store : Store
  pub records : List Stored
  pub sessions : List Session
  pub moment : ℕ

-- an engine of these
abbrev pub engaged : Store → List Stored → List Session → ℕ → Engaged
engaged store records sessions moment = record { store = store; records = records; sessions = sessions; moment = moment }

-- the file holds records that stand for the state, and what a store keeps of it is lawful
pub record FileStands (file : List ℕ) (s : State) : Type 0 where
  pub records : List Stored
  pub held : Held records file
  pub stands : Stands (parts_of (by_id records)) s.durable
  pub lawful : Lawful s.durable []

-- the engine's records stand for the state, which is lawful, and its sessions and its moment are the state's; what these have staged can be
-- committed
pub record StandsFor (e : Engaged) (s : State) : Type 0 where
  pub stands : Stands (parts_of e.records) s.durable
  pub lawful : LawfulState s
  pub sessions : e.sessions ≡ s.sessions
  pub moment : e.moment ≡ s.moment
  pub staged : AreStaged (parts_of e.records) e.sessions

-- the file holds these records, in the order of their ids
pub record HoldsSorted (file : List ℕ) (rs : List Stored) : Type 0 where
  pub records : List Stored
  pub held : Held records file
  pub same : rs ≡ by_id records

-- the file is a store whose records keep the rules
pub record IsSound (file : List ℕ) : Type 0 where
  pub records : List Stored
  pub holds : HoldsSorted file records
  pub rules : keep_rules (parts_of records) ≡ true

-- what a read gives and what a crash may leave is a store, and holds these records
pub record KeepsOver (store : Store) (rs : List Stored) (h : History) : Type 0 where
  pub store_is : IsStoreOf store h
  pub holds : Holds h (λ file. HoldsSorted file rs)

-- the engine's records are those of its store
abbrev pub WorksOver : Engaged → History → Type 0
WorksOver e h = KeepsOver e.store e.records h

-- the first test of opening that fails: one on pages and records, or else the rules over all records
abbrev pub damage_in : Result (List Stored) (ℕ × Damage) → OpenFault → Type 0
damage_in (Err found) fault = fault ≡ Damaged found.0 found.1
damage_in (Ok records) fault = (keep_rules (parts_of (by_id records)) ≡ false) × (fault ≡ Damaged 0 Graph)

-- what an answer of opening says of the file as it was
abbrev pub Tells : OpenFault → List ℕ → Type 0
Tells Disk file = Unit {0}
Tells NotStore file = is_made file ≡ false
Tells (Damaged p kind) file = (is_made file ≡ true) × damage_in (opened file) (Damaged p kind)
Tells Memory file = Unit {0}

-- an answer before which nothing was written: no store, or page 0 damaged in another way than by the rules over all records, which are asked behind the repair
abbrev pub LeavesAlone : OpenFault → Type 0
LeavesAlone Disk = ⊥
LeavesAlone NotStore = Unit {0}
LeavesAlone (Damaged p kind) = (p ≡ 0) × (kind ≡ Graph → ⊥)
LeavesAlone Memory = ⊥

-- what a fault of the store is to a line
abbrev pub fault_of : StoreFault → LineFault
fault_of storing.Disk = faults.Disk
fault_of storing.Changed = faults.Changed
fault_of storing.Memory = faults.Memory
