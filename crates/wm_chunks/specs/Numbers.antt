-- Values under numbers, and the chunks that they are kept in.
use Rattle.std.specs.Prelude.{◌≡◌, ℕ, ◌+◌, ◌*◌, ◌<◌, ◌≤◌, if◌then◌else◌, List, [], ◌∷◌, ◌++◌, length, Option, Some, None, option_map, unwrap_or, refl}
use Rattle.std.specs.BTreeMap.{is_at}
use Rattle.std.specs.Coded.{Coded, code_by, coded×, coded_list, coded_ℕ}
use Rattle.std.specs.List.Sorted.{IsStrictlySortedBy}
use Rattle.std.specs.Map.{keys_of, lookup}
use Rattle.std.specs.Ordering.{nat_cmp}
use Rattle.std.specs.declared.alloc.Global.{Global}
use Rattle.std.specs.declared.vec.Vec.{Vec}

-- values under numbers, in the order of the numbers
pub record Numbers (V : Type 0) : Type 0 where
  pub entries : List (ℕ × V)

module _ {V : Type 0} where
  abbrev pub numbers : List (ℕ × V) → Numbers V
  numbers es = record { entries = es }

  abbrev pub numbers_code : Coded V → Coded (Numbers V)
  numbers_code code = code_by (List (ℕ × V)) (coded_list (coded× coded_ℕ code)) (λ m. m.entries) numbers (λ _. refl)

  -- the number of an entry
  abbrev pub entry_number : ℕ × V → ℕ
  entry_number e = e.0

  -- the value of a number
  abbrev pub value_at : List (ℕ × V) → ℕ → Option V
  value_at es n = lookup (is_at (nat_cmp n)) es

  -- the numbers ascend
  abbrev pub AreOrdered : List (ℕ × V) → Type 0
  AreOrdered es = IsStrictlySortedBy nat_cmp (keys_of es)

  -- a number has a value, or none, and each other what it had
  abbrev pub Sets : ℕ → Option V → List (ℕ × V) → List (ℕ × V) → Type 0
  Sets n becomes old new = (q : ℕ) → value_at new q ≡ (if is_at (nat_cmp n) q then becomes else value_at old q)

  -- the greatest number, where they ascend
  abbrev pub last_number : List (ℕ × V) → Option ℕ
  last_number [] = None
  last_number (e ∷ []) = Some e.0
  last_number (e ∷ f ∷ es) = last_number (f ∷ es)

  -- the numbers ascend, from a bound on up to before another
  abbrev pub RiseWithin : ℕ → ℕ → List (ℕ × V) → Type 0
  RiseWithin low high [] = low ≤ high
  RiseWithin low high (e ∷ es) = (low ≤ e.0) × RiseWithin (e.0 + 1) high es

  -- they are those of a chunk, which has `WIDTH` of src/chunk.rt
  abbrev pub IsChunk : ℕ → List (ℕ × V) → Type 0
  IsChunk place es = RiseWithin (place * 32) (place * 32 + 32) es

  -- the entries of all chunks, one behind another
  abbrev pub joined : List (ℕ × Vec (ℕ × V) Global) → List (ℕ × V)
  joined [] = []
  joined (c ∷ cs) = c.1.items ++ joined cs

  -- what a look-up of a chunk found
  abbrev pub entries_found : Option (Vec (ℕ × V) Global) → List (ℕ × V)
  entries_found found = unwrap_or (option_map (λ v. v.items) found) []

  -- the chunks stand in order, each has the numbers of its place, and none is empty
  pub record AreChunks (cs : List (ℕ × Vec (ℕ × V) Global)) : Type 0 where
    pub ordered : IsStrictlySortedBy nat_cmp (keys_of cs)
    pub own : (place : ℕ) (c : Vec (ℕ × V) Global) → lookup (is_at (nat_cmp place)) cs ≡ Some c → IsChunk place c.items × (0 < length c.items)

  -- beside them a chunk has the numbers of its place, and they have none as great
  pub record IsNewest (cs : List (ℕ × Vec (ℕ × V) Global)) (place : ℕ) (es : List (ℕ × V)) : Type 0 where
    pub older : AreChunks cs
    pub own : IsChunk place es
    pub below : (q : ℕ) → place * 32 ≤ q → value_at (joined cs) q ≡ None
