-- Numbers as bytes.
use Rattle.std.proofs.Common.{◌≡◌, ℕ, ◌^◌, ◌<◌, List, [], length, take, drop, sym, ◌∙◌, ap}
use Rattle.std.proofs.lemmas.List.{append-nil}
use Rattle.byteorder.specs.Endian.{big_number, big_bytes}
use Rattle.byteorder.specs.Numbers.{big_number-reads_back, length-bytes_high_first}
use Rattle.wm_page.specs.Fields.{number_at, eight_bytes}

-- a number takes eight bytes
pub length-eight_bytes : (x : ℕ) → length (eight_bytes x) ≡ 8
unfolding eight_bytes
length-eight_bytes x = length-bytes_high_first 8 x

-- where the bytes of a number stand, the number is read
pub number_at-eight_bytes : (bytes : List ℕ) (at x : ℕ) → x < 2 ^ 64 → take 8 (drop at bytes) ≡ eight_bytes x → number_at bytes at ≡ x
unfolding number_at eight_bytes
number_at-eight_bytes bytes at x fits same = ap (big_number 8) (same ∙ sym (append-nil (big_bytes 8 x))) ∙ big_number-reads_back 8 x [] fits

-- the same bytes are the same number
pub number_at-same : (xs ys : List ℕ) (at place : ℕ) → take 8 (drop at xs) ≡ take 8 (drop place ys) → number_at xs at ≡ number_at ys place
unfolding number_at
number_at-same xs ys at place same = ap (big_number 8) same
