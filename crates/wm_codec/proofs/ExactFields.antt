-- The format of each kind of field is exact.
use Rattle.std.proofs.Common.{◌≡◌, ℕ, ◌^◌, ◌<◌, ◌≤◌, Bool, true, false, cond, ltb, List, [], ◌∷◌, ◌++◌, length, take, drop, Option, Some, None, refl, sym, ap, subst, ◌∙◌, append_assoc, arith, FitsSigned, Fits, rules}
use Rattle.std.specs.Int.{Width, w16, w32, w64, byte_len, from_be_bytes, to_be_bytes, cast_unsigned, cast_signed}
use Rattle.std.specs.Option.{option_map}
use Rattle.std.proofs.lemmas.Bool.{ltb-false, le-ltb}
use Rattle.std.proofs.lemmas.Int.{of_z-to_z}
use Rattle.std.proofs.Math.Facts.{sfits_to_z, Fits-of_z, to_z-of_z}
use Rattle.std.proofs.lemmas.List.{take_at, drop_at, take-append-drop, length-append, length-take}
use Rattle.std.proofs.lemmas.Nat.{be_bytes_2, be_bytes_4, be_bytes_8, from_be_bytes-to_be_bytes_2, from_be_bytes-to_be_bytes_4, from_be_bytes-to_be_bytes_8}
use Rattle.std.proofs.lemmas.Option.{same_Some}
use Rattle.wm_base.specs.declared.kind.Kind.{Kind}
use Rattle.wm_base.specs.declared.kind.Kind.TheVariants.{Insert, Update, Delete}
use Rattle.wm_spec.specs.declared.record.column.ColumnKind.{ColumnKind}
use Rattle.wm_spec.specs.declared.record.column.ColumnKind.TheVariants as columns
use Rattle.wm_spec.specs.declared.record.space.FreezeMode.{FreezeMode}
use Rattle.wm_spec.specs.declared.record.space.FreezeMode.TheVariants as freezes
use Rattle.wm_spec.specs.declared.record.lock.LockMode.{LockMode}
use Rattle.wm_spec.specs.declared.record.lock.LockMode.TheVariants as locks
use Rattle.wm_codec.specs.Format.{byte_at, coded}
use Rattle.wm_codec.specs.Fields.{number_at, number, u8, u16, u32, u64, i64, text, text_at, flag, flag_code, flag_of, kind, kind_code, kind_of, column_kind, column_kind_code, column_kind_of, freeze_mode, freeze_code, freeze_of, lock_mode, lock_code, lock_of}
use Rattle.wm_codec.proofs.Exact.{IsBytes, IsBytes-take, IsExact, then_some, map_some, guard_some}

-- ---- numbers

record IsWide (w : Width) (limit : ℕ) : Type 0 where
  len : (n : ℕ) → length (to_be_bytes w n) ≡ byte_len w
  back : (bytes : List ℕ) → length bytes ≡ byte_len w → IsBytes bytes → to_be_bytes w (from_be_bytes w bytes) ≡ bytes
  again : (n : ℕ) → n < limit → from_be_bytes w (to_be_bytes w n) ≡ n
  below : (bytes : List ℕ) → IsBytes bytes → from_be_bytes w bytes < limit

wide16 : IsWide w16 (2 ^ 16)
wide16 = record {
  len = λ n. refl;
  back = λ bytes len fits. be_bytes_2 bytes _ len fits refl;
  again = λ n lt. from_be_bytes-to_be_bytes_2 n lt;
  below = λ bytes fits. omega (arith, fits 0, fits 1);
}

wide32 : IsWide w32 (2 ^ 32)
wide32 = record {
  len = λ n. refl;
  back = λ bytes len fits. be_bytes_4 bytes _ len fits refl;
  again = λ n lt. from_be_bytes-to_be_bytes_4 n lt;
  below = λ bytes fits. omega (arith, fits 0, fits 1, fits 2, fits 3);
}

wide64 : IsWide w64 (2 ^ 64)
wide64 = record {
  len = λ n. refl;
  back = λ bytes len fits. be_bytes_8 bytes _ len fits refl;
  again = λ n lt. from_be_bytes-to_be_bytes_8 n lt;
  below = λ bytes fits. omega (arith, fits 0, fits 1, fits 2, fits 3, fits 4, fits 5, fits 6, fits 7);
}

number_exact : (w : Width) (limit : ℕ) → IsWide w limit → IsExact (number w limit)
number_exact w limit wide = record {
  takes = λ bytes rest n fits e.
      let g = guard_some (ltb (length bytes) (byte_len w)) (from_be_bytes w (take (byte_len w) bytes), drop (byte_len w) bytes) (n, rest) e in
      let long : byte_len w ≤ length bytes = ltb-false _ _ g.0 in
      let back : to_be_bytes w (from_be_bytes w (take (byte_len w) bytes)) ≡ take (byte_len w) bytes = wide.back (take (byte_len w) bytes) (omega (arith, length-take (byte_len w) bytes)) (IsBytes-take (byte_len w) bytes fits) in
      let below = wide.below (take (byte_len w) bytes) (IsBytes-take (byte_len w) bytes fits) in
      let parts : bytes ≡ to_be_bytes w (from_be_bytes w (take (byte_len w) bytes)) ++ drop (byte_len w) bytes = rw back (sym (take-append-drop (byte_len w) bytes)) in
      subst (λ p. (bytes ≡ to_be_bytes w p.0 ++ p.1) × (p.0 < limit)) g.1 (parts, below);
  again = λ n rest lt.
      let len = wide.len n in
      let long : ltb (length (to_be_bytes w n ++ rest)) (byte_len w) ≡ false = le-ltb _ _ (omega (arith, length-append (to_be_bytes w n) rest)) in
      rw (long, take_at (to_be_bytes w n) rest (byte_len w) len, drop_at (to_be_bytes w n) rest (byte_len w) len, wide.again n lt) refl;
}

pub u16_exact : IsExact u16
u16_exact = number_exact w16 (2 ^ 16) wide16

pub u32_exact : IsExact u32
u32_exact = number_exact w32 (2 ^ 32) wide32

pub u64_exact : IsExact u64
u64_exact = number_exact w64 (2 ^ 64) wide64

-- ---- bytes

pub byte_takes : (bytes rest : List ℕ) (b : ℕ) → byte_at bytes ≡ Some (b, rest) → bytes ≡ b ∷ rest
byte_takes [] rest b e = absurd cc
byte_takes (c ∷ bytes) rest b e = ap (λ p. p.0 ∷ p.1) (same_Some (c, bytes) (b, rest) e)

pub u8_exact : IsExact u8
u8_exact = record {
  takes = λ bytes rest b fits e. let t = byte_takes bytes rest b e in (t, subst IsBytes t fits 0);
  again = λ b rest lt. refl;
}

pub coded_exact : {A : Type 0} (code : A → ℕ) (value : ℕ → Option A) → ((a : A) → value (code a) ≡ Some a) → ((n : ℕ) (a : A) → value n ≡ Some a → n ≡ code a) → IsExact (coded code value)
coded_exact code value back only = record {
  takes = λ bytes rest a fits e.
      let b = then_some (byte_at bytes) (λ b. option_map (λ a. (a, b.1)) (value b.0)) (a, rest) e in
      let v = map_some (value b.0.0) (λ a. (a, b.0.1)) (a, rest) b.2 in
      let byte = byte_takes bytes b.0.1 b.0.0 b.1 in
      let code_is = only b.0.0 v.0 v.1 in
      let parts : bytes ≡ code v.0 ∷ b.0.1 = rw (← code_is) byte in
      (subst (λ p. bytes ≡ code p.0 ∷ p.1) v.2 parts, tt);
  again = λ a rest fits. rw (back a) refl;
}

-- two's complement
to_fits : (n : ℕ) → n < 2 ^ 64 → Fits w64 n
to_fits n h = search rules

from_fits : (n : ℕ) → Fits w64 n → n < 2 ^ 64
from_fits n h = search rules

pub i64_exact : IsExact i64
i64_exact = record {
  takes = λ bytes rest z fits e.
      let m = map_some (number_at w64 bytes) (λ n. (cast_signed w64 n.0, n.1)) (z, rest) e in
      let t = u64_exact.takes bytes m.0.1 m.0.0 fits m.1 in
      let back : cast_unsigned w64 (cast_signed w64 m.0.0) ≡ m.0.0 = of_z-to_z w64 m.0.0 t.1 in
      let parts : bytes ≡ to_be_bytes w64 (cast_unsigned w64 (cast_signed w64 m.0.0)) ++ m.0.1 = rw back t.0 in
      subst (λ p. (bytes ≡ to_be_bytes w64 (cast_unsigned w64 p.0) ++ p.1) × FitsSigned w64 p.0) m.2 (parts, sfits_to_z (to_fits m.0.0 t.1));
  again = λ z rest fits.
      rw (u64_exact.again (cast_unsigned w64 z) rest (from_fits (cast_unsigned w64 z) (Fits-of_z fits)), to_z-of_z fits) refl;
}

-- ---- a byte for each value

flag_back : (b : Bool) → flag_of (flag_code b) ≡ Some b
flag_back true = refl
flag_back false = refl

flag_only : (n : ℕ) (b : Bool) → flag_of n ≡ Some b → n ≡ flag_code b
flag_only n false e = grind arith
flag_only n true e = grind arith

pub flag_exact : IsExact flag
flag_exact = coded_exact flag_code flag_of flag_back flag_only

kind_back : (k : Kind) → kind_of (kind_code k) ≡ Some k
kind_back Insert = refl
kind_back Update = refl
kind_back Delete = refl

kind_only : (n : ℕ) (k : Kind) → kind_of n ≡ Some k → n ≡ kind_code k
kind_only n Insert e = grind arith
kind_only n Update e = grind arith
kind_only n Delete e = grind arith

pub kind_exact : IsExact kind
kind_exact = coded_exact kind_code kind_of kind_back kind_only

column_kind_back : (k : ColumnKind) → column_kind_of (column_kind_code k) ≡ Some k
column_kind_back columns.Number = refl
column_kind_back columns.Text = refl
column_kind_back columns.Time = refl

column_kind_only : (n : ℕ) (k : ColumnKind) → column_kind_of n ≡ Some k → n ≡ column_kind_code k
column_kind_only n columns.Number e = grind arith
column_kind_only n columns.Text e = grind arith
column_kind_only n columns.Time e = grind arith

pub column_kind_exact : IsExact column_kind
column_kind_exact = coded_exact column_kind_code column_kind_of column_kind_back column_kind_only

freeze_back : (m : FreezeMode) → freeze_of (freeze_code m) ≡ Some m
freeze_back freezes.Free = refl
freeze_back freezes.NoAccess = refl
freeze_back freezes.ReadOnly = refl
freeze_back freezes.OneWriter = refl
freeze_back freezes.WmOnly = refl

freeze_only : (n : ℕ) (m : FreezeMode) → freeze_of n ≡ Some m → n ≡ freeze_code m
freeze_only n freezes.Free e = grind arith
freeze_only n freezes.NoAccess e = grind arith
freeze_only n freezes.ReadOnly e = grind arith
freeze_only n freezes.OneWriter e = grind arith
freeze_only n freezes.WmOnly e = grind arith

pub freeze_mode_exact : IsExact freeze_mode
freeze_mode_exact = coded_exact freeze_code freeze_of freeze_back freeze_only

lock_back : (m : LockMode) → lock_of (lock_code m) ≡ Some m
lock_back locks.Exclusive = refl
lock_back locks.Shared = refl
lock_back locks.WorkspaceExclusive = refl
lock_back locks.VersionExclusive = refl

lock_only : (n : ℕ) (m : LockMode) → lock_of n ≡ Some m → n ≡ lock_code m
lock_only n locks.Exclusive e = grind arith
lock_only n locks.Shared e = grind arith
lock_only n locks.WorkspaceExclusive e = grind arith
lock_only n locks.VersionExclusive e = grind arith

pub lock_mode_exact : IsExact lock_mode
lock_mode_exact = coded_exact lock_code lock_of lock_back lock_only

-- ---- texts

pub text_exact : IsExact text
unfolding text_at
text_exact = record {
  takes = λ bytes rest t fits e.
      let n = then_some (number_at w16 bytes) (λ n. cond (ltb (length n.1) n.0) None (Some (take n.0 n.1, drop n.0 n.1))) (t, rest) e in
      let took = u16_exact.takes bytes n.0.1 n.0.0 fits n.1 in
      let g = guard_some (ltb (length n.0.1) n.0.0) (take n.0.0 n.0.1, drop n.0.0 n.0.1) (t, rest) n.2 in
      let long : n.0.0 ≤ length n.0.1 = ltb-false _ _ g.0 in
      let len : length (take n.0.0 n.0.1) ≡ n.0.0 = omega (arith, length-take n.0.0 n.0.1) in
      let parts : bytes ≡ (to_be_bytes w16 (length (take n.0.0 n.0.1)) ++ take n.0.0 n.0.1) ++ drop n.0.0 n.0.1 =
      rw len (took.0 ∙ ap (λ t. to_be_bytes w16 n.0.0 ++ t) (sym (take-append-drop n.0.0 n.0.1)) ∙ sym (append_assoc (to_be_bytes w16 n.0.0) (take n.0.0 n.0.1) (drop n.0.0 n.0.1))) in
      let below : length (take n.0.0 n.0.1) < 2 ^ 16 = rw len took.1 in
      subst (λ p. (bytes ≡ (to_be_bytes w16 (length p.0) ++ p.0) ++ p.1) × (length p.0 < 2 ^ 16)) g.1 (parts, below);
  again = λ t rest lt.
      let long : ltb (length (t ++ rest)) (length t) ≡ false = le-ltb _ _ (omega (arith, length-append t rest)) in
      rw (u16_exact.again (length t) (t ++ rest) lt, long, take_at t rest (length t) refl, drop_at t rest (length t) refl) refl;
}
