-- What a line does to an engine and its file: a promise a field.
use Rattle.std.specs.Prelude.{◌≡◌, ℕ, ◌+◌, ◌*◌, ◌⊎◌, true, List, [], Some, Result, OnOk, OnSome, IfSome, IsErrOf}
use Rattle.wm_grammar.specs.Parsed.{parsed}
use Rattle.wm_graph.specs.Parts.{parts_of}
use Rattle.wm_graph.specs.Rules.{keep_rules}
use Rattle.wm_model.specs.Step.{step, answer_text}
use Rattle.wm_model.specs.Step.Refusing.{refusal_of}
use Rattle.wm_plan.specs.Idle.{is_idle}
use Rattle.wm_prices.specs.Prices.{ChangesAtMost, Spends}
use Rattle.wm_print.specs.Texts.{Refused}
use Rattle.wm_spec.specs.declared.record.stored.Stored.{Stored}
use Rattle.wm_spending.specs.Nets.{Net}
use Rattle.wm_spending.specs.Stretches.{going_count, stretch_count}
use Rattle.wm_state.specs.Drafts.{ChangesFew}
use Rattle.wm_state.specs.State.{State}
use Rattle.wm_state.specs.declared.edit.Edit.{Edit}
use Rattle.wm_station.specs.History.{History, now}
use Rattle.wm_station.specs.Moments.{Ended}
use Rattle.wm_station.specs.declared.station.Station.{Ghosts as Station}
use Rattle.wm_store.specs.declared.store.Store.{Store}
use Rattle.wm_engine.specs.Cause.{LineCause}
use Rattle.wm_engine.specs.ForkLines.{is_fork}
use Rattle.wm_engine.specs.Keeping.{AreDrafted, HoldsDrafted}
use Rattle.wm_engine.specs.Kinds.{kind_of}
use Rattle.wm_engine.specs.NetLines.{nets_into}
use Rattle.wm_engine.specs.Pages.{ChangesPages}
use Rattle.wm_engine.specs.Working.{Engaged, FileStands, HoldsSorted, IsSound, KeepsOver, StandsFor, WorksOver}
use Rattle.wm_engine.specs.declared.fault.LineFault.{LineFault}
use Rattle.wm_engine.specs.declared.fault.LineFault.TheVariants.{Changed}
use Rattle.wm_engine.specs.declared.reply.Reply.{Reply}

-- the line was answered, and what it changes was kept before
pub record LineDone (tells : Type 0) (line : List ℕ) (from to : Engaged) (old new : History) (reply : Reply) : Type 0 where
  -- what it does and answers is the model's step, from each state that the engine stands for
  pub answered : (s : State) → StandsFor from s → StandsFor to (step s line).0 × (reply.bytes ≡ answer_text (step s line).1)
  pub kind : (s : State) → StandsFor from s → reply.kind ≡ kind_of (step s line).1
  pub refused : (s : State) → StandsFor from s → reply.refused ≡ refusal_of (step s line).1
  -- where it is refused the bytes tell the refusal, the engine is as it was, and the station did nothing: whatever the records are, also
  -- those of a store that stands for no state
  pub refusal : IfSome reply.refused (λ refusal. reply.bytes ≡ answer_text (Refused refusal))
  pub unmoved : OnSome reply.refused (to ≡ from)
  pub untouched : tells → OnSome reply.refused (new ≡ old)
  pub works : tells → WorksOver to new
  pub rules : keep_rules (parts_of to.records) ≡ true
  -- one that makes a savepoint or a workspace changes few records, and none of a row, a piece, a touch or an entry of a log; it leaves the
  -- pages of the file as they were but for 14 at most, and page 0
  pub few : is_fork (parsed line) ≡ true → ChangesFew from.records to.records
  pub few_pages : tells → is_fork (parsed line) ≡ true → ChangesPages to.store 14 (now old) (now new)
  -- of the pages behind page 0 that the store then has, at most two for each record that the line changes, and two more, are other than
  -- they were; one that changes no record writes nothing, and syncs nothing
  pub pages : tells → (n : ℕ) → ChangesAtMost n from.records to.records → ChangesPages to.store (2 * n + 2) (now old) (now new)
  pub still : tells → ChangesAtMost 0 from.records to.records → new ≡ old
  -- a refresh, or a merge that removes nothing, changes eight records at most, eight for each stretch of what is own or pending, each mark
  -- of the workspace, and, where it is merged, each lock there
  pub net : (net : Net) → nets_into (parsed line) ≡ Some net → (s : State) → StandsFor from s → ChangesAtMost (8 + 8 * stretch_count s net.workspace + going_count from.records net) from.records to.records
  -- one that is refused, that reads, that changes no row, or that says nothing changes no record and no session, and leaves the moment
  pub idle : (s : State) → StandsFor from s → is_idle (step s line).1 ≡ true → (to.records ≡ from.records) × (to.sessions ≡ from.sessions) × (to.moment ≡ from.moment)
  -- nor does any that counts no work change a record: one that moves a session or the moment alone
  pub workless : (s : State) → StandsFor from s → (step s line).0.durable.work ≡ s.durable.work → to.records ≡ from.records

-- what is so of the file whether the line was answered or not
pub record LineKeeps (tells : Type 0) (line : List ℕ) (from : Engaged) (old new : History) : Type 0 where
  -- a line that is refused, that reads, that changes no row, or that says nothing writes nothing, and syncs nothing
  pub unwritten : tells → (s : State) → StandsFor from s → is_idle (step s line).1 ≡ true → new ≡ old
  -- nor does one that counts no work
  pub workless_unwritten : tells → (s : State) → StandsFor from s → (step s line).0.durable.work ≡ s.durable.work → new ≡ old
  -- a crash at any moment of the call, and a read after it, finds a file that stands for the state before the line or after it
  pub any_moment : tells → (s : State) → StandsFor from s → Ended old new (λ file. FileStands file s ⊎ FileStands file (step s line).0)
  -- whatever the records stand for, the file stays a store whose records keep the rules, where the engine's do
  pub sound : tells → keep_rules (parts_of from.records) ≡ true → Ended old new IsSound

-- what the result of a call says of the counts of faults, and of another writer
pub record LineFaults {P T : Type 0} (station : Station P) (old new : P) (result : Result T LineFault) : Type 0 where
  pub cause : LineCause (station.disk_faults old) (station.disk_faults new) result
  pub say_quiet : station.say_faults new ≡ station.say_faults old
  pub unchanged : station.tells → IsErrOf result Changed → ⊥

-- edits were drafted of the records, and what they change committed and made of them
pub record Writes {T : Type 0} (tells : Type 0) (moment : ℕ) (edits : List Edit) (before after : Store) (from to : List Stored) (old new : History) (result : Result T LineFault) : Type 0 where
  pub image : OnOk result (AreDrafted from moment edits to)
  pub spends : OnOk result (Spends moment from edits to)
  pub works : tells → OnOk result (KeepsOver after to new)
  pub any_moment : tells → Ended old new (λ file. HoldsSorted file from ⊎ HoldsDrafted file from moment edits)
  -- where nothing changes the file is not touched
  pub nothing : tells → edits ≡ [] → new ≡ old
  -- of the pages behind page 0, at most two for each record that changes, and two more, are other than they were
  pub pages : tells → (n : ℕ) → OnOk result (ChangesAtMost n from to → ChangesPages after (2 * n + 2) (now old) (now new))
  -- where no record changes the file is not touched
  pub still : tells → OnOk result (ChangesAtMost 0 from to → new ≡ old)
  pub same_store : edits ≡ [] → OnOk result (after ≡ before)
