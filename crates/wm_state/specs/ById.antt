-- Records in the order of their ids, and what a batch makes of them.
use Rattle.std.specs.Prelude.{ℕ, ◌<◌, ◌==◌, nat_lt, if◌then◌else◌, List, [], ◌∷◌, Option, Some, None}
use Rattle.wm_spec.specs.declared.record.Record.{Record}
use Rattle.wm_spec.specs.declared.record.stored.Stored.{Stored}
use Rattle.wm_spec.specs.declared.record.batch.Change.{Change}

-- a record before the first of those whose ids are not smaller
abbrev pub place_by_id : Stored → List Stored → List Stored
place_by_id s [] = s ∷ []
place_by_id s (t ∷ ts) = if nat_lt t.id s.id then t ∷ place_by_id s ts else s ∷ t ∷ ts

-- the records in the order of their ids
abbrev pub by_id : List Stored → List Stored
by_id [] = []
by_id (s ∷ ss) = place_by_id s (by_id ss)

-- all ids are above
abbrev pub AllAbove : ℕ → List Stored → Type 0
AllAbove id [] = Unit {0}
AllAbove id (s ∷ ss) = (id < s.id) × AllAbove id ss

-- the ids ascend, no id twice
abbrev pub Ascend : List Stored → Type 0
Ascend [] = Unit {0}
Ascend (s ∷ ss) = AllAbove s.id ss × Ascend ss

-- a record before others, where there is one
abbrev pub perhaps_before : ℕ → Option Record → List Stored → List Stored
perhaps_before id None ss = ss
perhaps_before id (Some r) ss = record { id = id; «record» = r } ∷ ss

-- ascending records with what becomes of one id
abbrev pub set_at : ℕ → Option Record → List Stored → List Stored
set_at id becomes [] = perhaps_before id becomes []
set_at id becomes (s ∷ ss) =
    if s.id == id then perhaps_before id becomes ss
    else (if nat_lt id s.id then perhaps_before id becomes (s ∷ ss) else s ∷ set_at id becomes ss)

-- ascending records with the changes of a batch, one after another
abbrev pub applied : List Change → List Stored → List Stored
applied [] ss = ss
applied (c ∷ cs) ss = applied cs (set_at c.id c.becomes ss)
