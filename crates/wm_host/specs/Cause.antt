-- When a run ends before its end.
use Rattle.std.specs.Prelude.{ℕ, List}
use Rattle.wm_engine.specs.Working.{LeavesAlone, Tells}
use Rattle.wm_faults.specs.declared.fault.MakeFault.{MakeFault}
use Rattle.wm_faults.specs.declared.fault.MakeFault.TheVariants as making
use Rattle.wm_faults.specs.declared.fault.OpenFault.{OpenFault}
use Rattle.wm_faults.specs.declared.fault.OpenFault.TheVariants as opening
use Rattle.wm_engine.specs.declared.fault.LineFault.{LineFault}
use Rattle.wm_engine.specs.declared.fault.LineFault.TheVariants as running
use Rattle.wm_station.specs.declared.fault.SayFailed.{SayFailed}
use Rattle.wm_station.specs.declared.fault.SayFailed.TheVariants as saying
use Rattle.wm_host.specs.declared.stop.Stop.{Stop}
use Rattle.wm_host.specs.declared.stop.Stop.TheVariants.{SayFault, DiskFault, NotStore, Damaged, Exists, Memory, Changed}

-- what a say that failed ends a run with
abbrev pub stop_of_say : SayFailed → Stop
stop_of_say saying.Failed = SayFault
stop_of_say saying.Memory = Memory

-- what a line that was not answered ends a run with
abbrev pub stop_of_line : LineFault → Stop
stop_of_line running.Disk = DiskFault
stop_of_line running.Changed = Changed
stop_of_line running.Memory = Memory

-- what ends a run whose store was not opened
abbrev pub stop_of_open : OpenFault → Stop
stop_of_open opening.Disk = DiskFault
stop_of_open opening.NotStore = NotStore
stop_of_open (opening.Damaged page kind) = Damaged page kind
stop_of_open opening.Memory = Memory

-- what ends one that made no store
abbrev pub stop_of_make : MakeFault → Stop
stop_of_make making.Disk = DiskFault
stop_of_make making.Exists = Exists
stop_of_make making.Memory = Memory

-- what ends a run while it says something
abbrev pub IsOfSaying : Stop → Type 0
IsOfSaying SayFault = Unit {0}
IsOfSaying Memory = Unit {0}
IsOfSaying stop = ⊥

-- what ends a run while it answers a line
abbrev pub IsOfAnswers : Stop → Type 0
IsOfAnswers SayFault = Unit {0}
IsOfAnswers DiskFault = Unit {0}
IsOfAnswers Memory = Unit {0}
IsOfAnswers Changed = Unit {0}
IsOfAnswers stop = ⊥

-- what ends a run while it runs a line
abbrev pub IsOfRunning : Stop → Type 0
IsOfRunning DiskFault = Unit {0}
IsOfRunning Memory = Unit {0}
IsOfRunning Changed = Unit {0}
IsOfRunning stop = ⊥

-- what ends a run over the lines of a script
abbrev pub IsOfScript : Stop → Type 0
IsOfScript NotStore = ⊥
IsOfScript (Damaged page kind) = ⊥
IsOfScript Exists = ⊥
IsOfScript stop = Unit {0}

-- what ends a run that makes a store
abbrev pub IsOfMaking : Stop → Type 0
IsOfMaking DiskFault = Unit {0}
IsOfMaking Exists = Unit {0}
IsOfMaking SayFault = Unit {0}
IsOfMaking Memory = Unit {0}
IsOfMaking stop = ⊥

-- what ends one whose store was not opened
abbrev pub IsOfOpening : Stop → Type 0
IsOfOpening DiskFault = Unit {0}
IsOfOpening NotStore = Unit {0}
IsOfOpening (Damaged page kind) = Unit {0}
IsOfOpening Memory = Unit {0}
IsOfOpening stop = ⊥

-- what it says of the file as it was
abbrev pub StopTells : Stop → List ℕ → Type 0
StopTells NotStore file = Tells opening.NotStore file
StopTells (Damaged page kind) file = Tells (opening.Damaged page kind) file
StopTells stop file = Unit {0}

-- what ends a run before anything was written
abbrev pub StopsAlone : Stop → Type 0
StopsAlone NotStore = LeavesAlone opening.NotStore
StopsAlone (Damaged page kind) = LeavesAlone (opening.Damaged page kind)
StopsAlone stop = ⊥
