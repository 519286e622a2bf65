-- What ends a run while it answers a line is no fault of the source, and not the length of the script.
use Rattle.std.proofs.Common.{◌≡◌, Result, Ok, Err, subst, sym}
use Rattle.std.specs.Prelude.{IfErr, IsErrOf}
use Rattle.wm_host.specs.declared.stop.Stop.{Stop}
use Rattle.wm_host.specs.declared.stop.Stop.TheVariants.{SourceFault, SayFault, DiskFault, NotStore, Damaged, Exists, InputLimit, Memory, Changed}
use Rattle.wm_host.specs.Cause.{IsOfAnswers, IsOfRunning, IsOfSaying}

pub not_of_source : {T : Type 0} (result : Result T Stop) → IfErr result IsOfAnswers → IsErrOf result SourceFault → ⊥
not_of_source (Ok x) answering is = cc
not_of_source (Err stop) answering is = let same : stop ≡ SourceFault = cc in subst IsOfAnswers same answering

pub not_of_limit : {T : Type 0} (result : Result T Stop) → IfErr result IsOfAnswers → IsErrOf result InputLimit → ⊥
not_of_limit (Ok x) answering is = cc
not_of_limit (Err stop) answering is = let same : stop ≡ InputLimit = cc in subst IsOfAnswers same answering

-- a `?` hands the error on as it is
pub handed_on : {T : Type 0} (result : Result T Stop) (stop : Stop) → (y : Stop) × (result ≡ Err y) × (y ≡ stop) → IsOfAnswers stop → IfErr result IsOfAnswers
handed_on result stop handed answering = rw handed.1 (subst IsOfAnswers (sym handed.2) answering)

-- what ends a run while it runs a line ends it while it answers one
pub running_answers : (stop : Stop) → IsOfRunning stop → IsOfAnswers stop
running_answers SourceFault of = of
running_answers SayFault of = absurd of
running_answers DiskFault of = tt
running_answers NotStore of = of
running_answers (Damaged page kind) of = of
running_answers Exists of = of
running_answers InputLimit of = of
running_answers Memory of = tt
running_answers Changed of = tt

-- and so does what ends it while it says something, which is no fault of the disk
pub saying_answers : {T : Type 0} (result : Result T Stop) → IfErr result IsOfSaying → IfErr result IsOfAnswers
saying_answers (Ok x) of = tt
saying_answers (Err SourceFault) of = of
saying_answers (Err SayFault) of = tt
saying_answers (Err DiskFault) of = absurd of
saying_answers (Err NotStore) of = of
saying_answers (Err (Damaged page kind)) of = of
saying_answers (Err Exists) of = of
saying_answers (Err InputLimit) of = of
saying_answers (Err Memory) of = tt
saying_answers (Err Changed) of = absurd of

pub not_of_disk : {T : Type 0} (result : Result T Stop) → IfErr result IsOfSaying → IsErrOf result DiskFault → ⊥
not_of_disk (Ok x) of is = cc
not_of_disk (Err stop) of is = let same : stop ≡ DiskFault = cc in subst IsOfSaying same of

pub not_of_change : {T : Type 0} (result : Result T Stop) → IfErr result IsOfSaying → IsErrOf result Changed → ⊥
not_of_change (Ok x) of is = cc
not_of_change (Err stop) of is = let same : stop ≡ Changed = cc in subst IsOfSaying same of
