-- The rows of a list: for each key, the maximal periods on which the list holds a row of one stamp.
use Rattle.std.specs.Prelude.{ℕ, ◌≡◌, ◌<◌, ◌≤◌, ◌&&◌, ◌==◌, Bool, nat_le, nat_lt, if◌then◌else◌, List, [], ◌∷◌, ◌++◌, map, Option, None, Some}
use Rattle.std.specs.Bool.{then_some}
use Rattle.std.specs.List.{list_any}
use Rattle.std.specs.Option.{option_or}
use Rattle.std.specs.Ordering.{is_eq, is_lt}
use Rattle.std.specs.declared.cmp.Ordering.TheVariants.{Less}
use Rattle.wm_base.specs.Key.{key_order}
use Rattle.wm_base.specs.declared.value.Value.{Value}
use Rattle.wm_spec.specs.Lists.{Entry, is_of, stamp_at}

-- a period with what stands on it
pub record Stretch : Type 0 where
  pub from : ℕ
  pub till : ℕ
  pub stamp : ℕ

-- what stands at a moment: what the last stretch that has it says
abbrev pub value_at : List Stretch → ℕ → Option ℕ
value_at [] t = None
value_at (s ∷ ss) t = option_or (value_at ss t) (then_some (nat_le s.from t && nat_lt t s.till) s.stamp)

-- a stretch before others, made one with the first of them where it meets it and has its stamp
abbrev pub joined : ℕ → ℕ → ℕ → List Stretch → List Stretch
joined from till stamp [] = record { from = from; till = till; stamp = stamp } ∷ []
joined from till stamp (s ∷ ss) =
    if (till == s.from) && (stamp == s.stamp)
    then record { from = from; till = s.till; stamp = stamp } ∷ ss
    else record { from = from; till = till; stamp = stamp } ∷ s ∷ ss

-- the same where something stands, and only the others where nothing does
abbrev pub onto : ℕ → ℕ → Option ℕ → List Stretch → List Stretch
onto from till None rest = rest
onto from till (Some stamp) rest = joined from till stamp rest

-- what a function of the moment gives between neighbouring cuts, from the lowest on, joined
abbrev pub stretches : (ℕ → Option ℕ) → ℕ → List ℕ → List Stretch
stretches f low [] = []
stretches f low (cut ∷ cuts) = onto low cut (f low) (stretches f cut cuts)

-- the cuts with one more, ascending, each once, and none but those above the lowest
abbrev pub cut_in : ℕ → ℕ → List ℕ → List ℕ
cut_in n low [] = if nat_le n low then [] else n ∷ []
cut_in n low (cut ∷ cuts) =
    if nat_le n low then cut ∷ cuts else (if nat_lt n cut then n ∷ cut ∷ cuts else cut ∷ cut_in n cut cuts)

-- the ends of the entries of a key, ascending
abbrev pub cuts : List Entry → ℕ → List Value → List ℕ
cuts [] table key = []
cuts (e ∷ es) table key =
    if is_of table key e then cut_in e.from 0 (cut_in e.till 0 (cuts es table key)) else cuts es table key

-- the keys with one more, ascending, each once
abbrev pub key_in : List Value → List (List Value) → List (List Value)
key_in key [] = key ∷ []
key_in key (k ∷ ks) =
    if is_lt (key_order key k) then key ∷ k ∷ ks else (if is_eq (key_order key k) then k ∷ ks else k ∷ key_in key ks)

-- the keys of a table, ascending
abbrev pub keys : List Entry → ℕ → List (List Value)
keys [] table = []
keys (e ∷ es) table = if e.table == table then key_in e.key (keys es table) else keys es table

-- the key comes before all of these
abbrev pub ComesBefore : List Value → List (List Value) → Type 0
ComesBefore key [] = Unit {0}
ComesBefore key (k ∷ ks) = (key_order key k ≡ Less) × ComesBefore key ks

-- the keys ascend, each once
abbrev pub KeysAscend : List (List Value) → Type 0
KeysAscend [] = Unit {0}
KeysAscend (k ∷ ks) = ComesBefore k ks × KeysAscend ks

-- the key is one of these
abbrev pub is_key_in : List Value → List (List Value) → Bool
is_key_in key keys = list_any (λ k. is_eq (key_order k key)) keys

-- the rows of one key
abbrev pub rows_of_key : List Entry → ℕ → List Value → List Stretch
rows_of_key es table key = stretches (stamp_at es table key) 0 (cuts es table key)

-- the rows of a table with their keys, by key and from
abbrev pub rows_from : List Entry → ℕ → List (List Value) → List (List Value × Stretch)
rows_from es table [] = []
rows_from es table (key ∷ ks) = map (λ s. (key, s)) (rows_of_key es table key) ++ rows_from es table ks

abbrev pub rows : List Entry → ℕ → List (List Value × Stretch)
rows es table = rows_from es table (keys es table)

-- the stretches lie one after another from an instant on, none is empty, and none could be one with its neighbour
abbrev pub IsApart : ℕ → ℕ → List Stretch → Type 0
IsApart till stamp [] = Unit {0}
IsApart till stamp (s ∷ ss) = ((till ≡ s.from) → (stamp ≡ s.stamp) → ⊥)

abbrev pub AreMaximal : ℕ → List Stretch → Type 0
AreMaximal low [] = Unit {0}
AreMaximal low (s ∷ ss) = (low ≤ s.from) × (s.from < s.till) × IsApart s.till s.stamp ss × AreMaximal s.till ss
