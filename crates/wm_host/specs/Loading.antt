-- What `load` does: it runs lines and says nothing, and then says how many of their answers were of each kind.
use Rattle.std.specs.Prelude.{ℕ, ◌≡◌, ◌≤◌, ◌+◌, ◌⊎◌, Bool, true, false, List, [], ◌∷◌, ◌++◌, length, take, codes}
use Rattle.std.specs.List.{count_by}
use Rattle.std.specs.Fmt.{decimal}
use Rattle.wm_engine.specs.Kinds.{kind_of}
use Rattle.wm_engine.specs.Working.{FileStands, StandsFor}
use Rattle.wm_engine.specs.declared.reply.Kind.{Kind}
use Rattle.wm_engine.specs.declared.reply.Kind.TheVariants.{Fine, Done, Listing, Refused}
use Rattle.wm_station.specs.History.{History, now, said, Leaves}
use Rattle.wm_station.specs.Moments.{Holds}
use Rattle.wm_state.specs.State.{State}
use Rattle.wm_model.specs.Step.{step}
use Rattle.wm_model.specs.Running.{after}
use Rattle.wm_host.specs.Hosting.{WorksSoundly}
use Rattle.wm_host.specs.Outcome.{HasSaid, HasSaidFront}
use Rattle.wm_host.specs.declared.host.Host.{Host}
use Rattle.wm_host.specs.declared.tally.Tally.{Tally}

-- ---- the counts

-- the kinds of the answers to all lines
unfoldable pub kinds : State → List (List ℕ) → List Kind
kinds s [] = []
kinds s (line ∷ lines) = kind_of (step s line).1 ∷ kinds (step s line).0 lines

-- the answer is OK
abbrev pub is_fine : Kind → Bool
is_fine Fine = true
is_fine kind = false

-- the answer is how many rows were changed
abbrev pub is_done : Kind → Bool
is_done Done = true
is_done kind = false

-- the answer is rows
abbrev pub is_listing : Kind → Bool
is_listing Listing = true
is_listing kind = false

-- the answer is a refusal
abbrev pub is_refused : Kind → Bool
is_refused Refused = true
is_refused kind = false

-- a word, a number and LF
abbrev pub counted : List ℕ → ℕ → List ℕ
counted word count = word ++ (decimal count ++ codes "\n")

-- five numbers, each on a line of its own
unfoldable pub five_lines : ℕ → ℕ → ℕ → ℕ → ℕ → List ℕ
five_lines all fine done listings refused = counted (codes "LINES ") all ++ (counted (codes "OK ") fine ++ (counted (codes "DONE ") done ++ (counted (codes "ROWS ") listings ++ counted (codes "REFUSED ") refused)))

-- what is said of the answers: how many there are, and how many of each kind
abbrev pub counts_text : List Kind → List ℕ
counts_text ks = five_lines (length ks) (count_by is_fine ks) (count_by is_done ks) (count_by is_listing ks) (count_by is_refused ks)

-- these are the counts of the kinds
pub record Counts (tally : Tally) (ks : List Kind) : Type 0 where
  pub fine : tally.fine ≡ count_by is_fine ks
  pub done : tally.done ≡ count_by is_done ks
  pub listings : tally.listings ≡ count_by is_listing ks
  pub refused : tally.refused ≡ count_by is_refused ks

-- ---- lines that are run in silence

-- the file stands for the state after some of the lines, from none to all
pub record StandsAmong (s : State) (lines : List (List ℕ)) (file : List ℕ) : Type 0 where
  pub count : ℕ
  pub within : count ≤ length lines
  pub stands : FileStands file (after s (take count lines))

-- it stands for the state after so many of the lines, or after one more
abbrev pub StandsNear : State → List (List ℕ) → ℕ → List ℕ → Type 0
StandsNear s lines count file = FileStands file (after s (take count lines)) ⊎ FileStands file (after s (take (count + 1) lines))

-- the line was run and kept, and this is the kind of its answer
pub record RunsLine (tells : Type 0) (new : History) (from to : Host) (line : List ℕ) (kind : Kind) : Type 0 where
  pub lines : to.lines ≡ from.lines + 1
  pub stands : (s : State) → StandsFor from.engine s → StandsFor to.engine (step s line).0
  pub kind_is : (s : State) → StandsFor from.engine s → kind ≡ kind_of (step s line).1
  pub works : tells → WorksSoundly to.engine new

-- all these lines were run and kept, and these are the counts of the kinds of their answers
pub record RunsAll (tells : Type 0) (new : History) (from to : Host) (lines : List (List ℕ)) (tally : Tally) : Type 0 where
  pub all : to.lines ≡ length lines
  pub stands : (s : State) → StandsFor from.engine s → StandsFor to.engine (after s lines)
  pub counts : (s : State) → StandsFor from.engine s → Counts tally (kinds s lines)
  pub works : tells → WorksSoundly to.engine new

-- so many of these lines were run and kept, or one more
pub record RunsSome (tells : Type 0) (new : History) (from to : Host) (lines : List (List ℕ)) : Type 0 where
  pub within : to.lines ≤ length lines
  pub each : tells → (s : State) → StandsFor from.engine s → StandsNear s lines to.lines (now new)

-- ---- the outcome

-- all these lines were run, the counts of their answers were said and nothing else, and the file stands for the state that the
-- lines leave, now and after a crash
pub record Loaded (old new : History) (s : State) (lines : List (List ℕ)) : Type 0 where
  pub says : HasSaid old new (counts_text (kinds s lines))
  pub stands : Holds new (λ file. FileStands file (after s lines))

-- so many of these lines were run, or one more, and a front of the counts of all their answers was said and nothing else
pub record LoadsSome (old new : History) (s : State) (lines : List (List ℕ)) (count : ℕ) : Type 0 where
  pub within : count ≤ length lines
  pub front : HasSaidFront old new (counts_text (kinds s lines))
  pub stands : StandsNear s lines count (now new)

-- what a crash leaves: a file that stands for the state after some of these lines, and a front of the counts said; and where
-- any of these was said, it stands for the state after all the lines
pub record CrashLoads (old : History) (s : State) (lines : List (List ℕ)) (file after_it : List ℕ) : Type 0 where
  pub among : StandsAmong s lines file
  pub front : List ℕ
  pub said_is : after_it ≡ said old ++ front
  pub rest : List ℕ
  pub is : counts_text (kinds s lines) ≡ front ++ rest
  pub whole : (front ≡ []) ⊎ (among.count ≡ length lines)

-- a file that a crash could leave before, and nothing said; or what one within the lines or behind them leaves
abbrev pub CrashOfLoad : History → State → List (List ℕ) → List ℕ → List ℕ → Type 0
CrashOfLoad old s lines file after_it = (Leaves old file × (after_it ≡ said old)) ⊎ CrashLoads old s lines file after_it
