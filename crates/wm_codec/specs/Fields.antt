-- The format of each kind of field.
use Rattle.std.specs.Prelude.{ℕ, ℤ, ◌<◌, ◌≤◌, ◌^◌, Bool, true, false, nat_lt, nat_le, ◌==◌, if◌then◌else◌, List, [], ◌∷◌, ◌++◌, length, take, drop, Option, Some, None, FitsSigned}
use Rattle.std.specs.Int.{Width, w16, w32, w64, byte_len, from_be_bytes, to_be_bytes, cast_unsigned, cast_signed}
use Rattle.std.specs.Option.{option_and_then, option_map}
use Rattle.wm_base.specs.declared.instant.TheConstants.{END}
use Rattle.wm_base.specs.declared.kind.Kind.{Kind}
use Rattle.wm_base.specs.declared.kind.Kind.TheVariants.{Insert, Update, Delete}
use Rattle.wm_base.specs.declared.value.Value.{Value}
use Rattle.wm_base.specs.declared.value.Value.TheVariants.{Null, Num, Text, Time, Span}
use Rattle.wm_spec.specs.declared.record.cell_range.CellRange.{CellRange}
use Rattle.wm_spec.specs.declared.record.column.ColumnKind.{ColumnKind}
use Rattle.wm_spec.specs.declared.record.column.ColumnKind.TheVariants as columns
use Rattle.wm_spec.specs.declared.record.lock.LockMode.{LockMode}
use Rattle.wm_spec.specs.declared.record.lock.LockMode.TheVariants as locks
use Rattle.wm_spec.specs.declared.record.space.FreezeMode.{FreezeMode}
use Rattle.wm_spec.specs.declared.record.space.FreezeMode.TheVariants as freezes
use Rattle.wm_codec.specs.Format.{Format, ◌▸◌, fields, coded, byte_at}

-- ---- numbers, highest byte first

abbrev pub number_at : Width → List ℕ → Option (ℕ × List ℕ)
number_at w bytes =
    if nat_lt (length bytes) (byte_len w) then None
    else Some (from_be_bytes w (take (byte_len w) bytes), drop (byte_len w) bytes)

abbrev pub number : Width → ℕ → Format ℕ
number w limit = record {
  spell = to_be_bytes w;
  CanSpell = λ n. Unit {0};
  Fits = λ n. n < limit;
  read = number_at w;
}

abbrev pub u16 : Format ℕ
u16 = number w16 (2 ^ 16)

abbrev pub u32 : Format ℕ
u32 = number w32 (2 ^ 32)

abbrev pub u64 : Format ℕ
u64 = number w64 (2 ^ 64)

abbrev pub u8 : Format ℕ
u8 = record {
  spell = λ n. n ∷ [];
  CanSpell = λ n. Unit {0};
  Fits = λ n. n < 256;
  read = byte_at;
}

-- two's complement
abbrev pub i64 : Format ℤ
i64 = record {
  spell = λ z. to_be_bytes w64 (cast_unsigned w64 z);
  CanSpell = λ z. Unit {0};
  Fits = FitsSigned w64;
  read = λ bytes. option_map (λ n. (cast_signed w64 n.0, n.1)) (number_at w64 bytes);
}

-- ---- a byte for each value

abbrev pub flag_code : Bool → ℕ
flag_code false = 0
flag_code true = 1

abbrev pub flag_of : ℕ → Option Bool
flag_of n = if n == 0 then Some false else (if n == 1 then Some true else None)

abbrev pub flag : Format Bool
flag = coded flag_code flag_of

abbrev pub kind_code : Kind → ℕ
kind_code Insert = 1
kind_code Update = 2
kind_code Delete = 3

abbrev pub kind_of : ℕ → Option Kind
kind_of n = if n == 1 then Some Insert else (if n == 2 then Some Update else (if n == 3 then Some Delete else None))

abbrev pub kind : Format Kind
kind = coded kind_code kind_of

abbrev pub column_kind_code : ColumnKind → ℕ
column_kind_code columns.Number = 1
column_kind_code columns.Text = 2
column_kind_code columns.Time = 3

abbrev pub column_kind_of : ℕ → Option ColumnKind
column_kind_of n =
    if n == 1 then Some columns.Number else (if n == 2 then Some columns.Text else (if n == 3 then Some columns.Time else None))

abbrev pub column_kind : Format ColumnKind
column_kind = coded column_kind_code column_kind_of

abbrev pub freeze_code : FreezeMode → ℕ
freeze_code freezes.Free = 0
freeze_code freezes.NoAccess = 1
freeze_code freezes.ReadOnly = 2
freeze_code freezes.OneWriter = 3
freeze_code freezes.WmOnly = 4

abbrev pub freeze_of : ℕ → Option FreezeMode
freeze_of n =
    if n == 0 then Some freezes.Free else (if n == 1 then Some freezes.NoAccess else (if n == 2 then Some freezes.ReadOnly
    else (if n == 3 then Some freezes.OneWriter else (if n == 4 then Some freezes.WmOnly else None))))

abbrev pub freeze_mode : Format FreezeMode
freeze_mode = coded freeze_code freeze_of

abbrev pub lock_code : LockMode → ℕ
lock_code locks.Exclusive = 1
lock_code locks.Shared = 2
lock_code locks.WorkspaceExclusive = 3
lock_code locks.VersionExclusive = 4

abbrev pub lock_of : ℕ → Option LockMode
lock_of n =
    if n == 1 then Some locks.Exclusive else (if n == 2 then Some locks.Shared
    else (if n == 3 then Some locks.WorkspaceExclusive else (if n == 4 then Some locks.VersionExclusive else None)))

abbrev pub lock_mode : Format LockMode
lock_mode = coded lock_code lock_of

-- ---- texts and values

-- two bytes of length, and that many bytes
unfoldable pub text_at : List ℕ → Option (List ℕ × List ℕ)
text_at bytes =
    option_and_then (λ n. if nat_lt (length n.1) n.0 then None else Some (take n.0 n.1, drop n.0 n.1)) (number_at w16 bytes)

abbrev pub text : Format (List ℕ)
text = record {
  spell = λ t. to_be_bytes w16 (length t) ++ t;
  CanSpell = λ t. length t < 2 ^ 16;
  Fits = λ t. length t < 2 ^ 16;
  read = text_at;
}

-- a byte for the type, and what the type has: nothing, a number, a text that is not empty, or an instant
unfoldable pub spell_value : Value → List ℕ
spell_value Null = 0 ∷ []
spell_value (Num n) = 1 ∷ i64.spell n
spell_value (Text t) = 2 ∷ text.spell t
spell_value (Time i) = 3 ∷ u64.spell i
spell_value (Span p) = []

-- a text is not empty, and a period has no spelling
abbrev pub CanSpellValue : Value → Type 0
CanSpellValue Null = Unit {0}
CanSpellValue (Num n) = Unit {0}
CanSpellValue (Text t) = (0 < length t) × (length t < 2 ^ 16)
CanSpellValue (Time i) = Unit {0}
CanSpellValue (Span p) = ⊥

unfoldable pub FitsValue : Value → Type 0
FitsValue Null = Unit {0}
FitsValue (Num n) = FitsSigned w64 n
FitsValue (Text t) = (0 < length t) × (length t < 2 ^ 16)
FitsValue (Time i) = i ≤ END
FitsValue (Span p) = ⊥

-- the value behind the byte of its type
unfoldable pub value_of_type : ℕ → List ℕ → Option (Value × List ℕ)
value_of_type tag bytes =
    if tag == 0 then Some (Null, bytes)
    else (if tag == 1 then option_map (λ n. (Num n.0, n.1)) (i64.read bytes)
    else (if tag == 2 then option_and_then (λ t. if length t.0 == 0 then None else Some (Text t.0, t.1)) (text_at bytes)
    else (if tag == 3 then option_and_then (λ n. if nat_le n.0 END then Some (Time n.0, n.1) else None) (number_at w64 bytes)
    else None)))

unfoldable pub value_at : List ℕ → Option (Value × List ℕ)
value_at bytes = option_and_then (λ tag. value_of_type tag.0 tag.1) (byte_at bytes)

abbrev pub value : Format Value
value = record { spell = spell_value; CanSpell = CanSpellValue; Fits = FitsValue; read = value_at }

-- ---- keys and ranges of cells

-- a key of one value is its value
unfoldable pub spell_key : List Value → List ℕ
spell_key [] = []
spell_key (v ∷ vs) = spell_value v

abbrev pub CanSpellKey : List Value → Type 0
CanSpellKey [] = ⊥
CanSpellKey (v ∷ []) = CanSpellValue v
CanSpellKey (v ∷ w ∷ vs) = ⊥

unfoldable pub FitsKey : List Value → Type 0
FitsKey [] = ⊥
FitsKey (v ∷ []) = FitsValue v
FitsKey (v ∷ w ∷ vs) = ⊥

abbrev pub key : Format (List Value)
key = record {
  spell = spell_key;
  CanSpell = CanSpellKey;
  Fits = FitsKey;
  read = λ bytes. option_map (λ v. (v.0 ∷ [], v.1)) (value_at bytes);
}

abbrev pub cell_range : Format CellRange
cell_range = fields
    (λ c. (c.table, (c.key, (c.from, c.till))))
    (λ p. record { table = p.0; key = p.1.0; from = p.1.1.0; till = p.1.1.1 })
    (u16 ▸ key ▸ u64 ▸ u64)

-- ---- key columns

-- a byte that says whether there is a key, and the place of its column, which is 0 where there is none
abbrev pub spell_key_columns : List ℕ → List ℕ
spell_key_columns [] = 0 ∷ 0 ∷ []
spell_key_columns (place ∷ places) = 1 ∷ place ∷ []

-- at most one
abbrev pub CanSpellKeyColumns : List ℕ → Type 0
CanSpellKeyColumns [] = Unit {0}
CanSpellKeyColumns (place ∷ []) = Unit {0}
CanSpellKeyColumns (place ∷ other ∷ places) = ⊥

abbrev pub FitsKeyColumns : List ℕ → Type 0
FitsKeyColumns [] = Unit {0}
FitsKeyColumns (place ∷ []) = place < 256
FitsKeyColumns (place ∷ other ∷ places) = ⊥

-- the key columns that the two bytes say
abbrev pub key_columns_of : Bool → ℕ → Option (List ℕ)
key_columns_of true place = Some (place ∷ [])
key_columns_of false place = if place == 0 then Some [] else None

abbrev pub key_columns : Format (List ℕ)
key_columns = record {
  spell = spell_key_columns;
  CanSpell = CanSpellKeyColumns;
  Fits = FitsKeyColumns;
  read = λ bytes. option_and_then (λ p. option_map (λ places. (places, p.1)) (key_columns_of p.0.0 p.0.1)) ((flag ▸ u8).read bytes);
}
