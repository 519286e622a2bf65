-- A net list and what is gained are no longer than the stretches into which their cells are cut.
use Rattle.std.proofs.Common.{◌≡◌, ◌+◌, ◌≤◌, ℕ, List, ◌++◌, length, Option, None, Some, is_some, Bool, true, false, not, ◌&&◌, ◌||◌, refl, arith}
use Rattle.wm_spec.specs.Lists.{Entry, Cell, Told, told, touched}
use Rattle.wm_net.specs.Counts.{cut_count, IsSteady, has_cuts}
use Rattle.wm_net.specs.Nets.{replayed, one_stamp, net, outside, gained_at, gained}
use Rattle.wm_net.proofs.Counting.{count_tests, count_either, length-listing}
use Rattle.wm_net.proofs.Cutting.{count_cuts, has_cuts-append, IsSteady-two, IsSteady-touched}

-- cells that the one list touches and the other does not
abbrev pub touched_alone : List Entry → List Entry → Cell → Bool
touched_alone own pending c = touched pending c && not (touched own c)

pub net_count : (moment : ℕ) (user : List ℕ) (es own : List Entry) → has_cuts es own ≡ true → length (net moment user own) ≤ cut_count es (touched own)
net_count moment user es own h =
    let listed = length-listing one_stamp (replayed moment user) own (told own) in
    let cut = count_cuts own es (touched own) h in
    omega (arith, listed, cut)

given-outside : (o p : Option Told) → is_some (outside o p) ≡ true → (is_some p && not (is_some o)) ≡ true
given-outside (Some x) p e = absurd (cc)
given-outside None (Some y) e = refl
given-outside None None e = e

pub gained_count : (moment : ℕ) (user : List ℕ) (es own pending : List Entry) → has_cuts es own ≡ true → has_cuts es pending ≡ true
    → length (gained moment user own pending) ≤ cut_count es (touched_alone own pending)
gained_count moment user es own pending one two =
    let both = own ++ pending in
    let listed = length-listing one_stamp (replayed moment user) both (gained_at own pending) in
    let given = count_tests both (λ c. is_some (gained_at own pending c)) (touched_alone own pending) (λ c. given-outside (told own c) (told pending c)) in
    let cut = count_cuts both es (touched_alone own pending) (has_cuts-append es own pending one two) in
    omega (arith, listed, given, cut)

-- cells that one list alone touches, and those that the other does, are cells that some entry of them does
pub alone_count : (es own pending : List Entry) → cut_count es (touched own) + cut_count es (touched_alone own pending) ≤ cut_count es (λ c. touched own c || touched pending c)
alone_count es own pending =
    let either = count_either es (touched own) (touched_alone own pending) (λ c. outside_own (touched own c) (touched pending c)) in
    let more = count_tests es (λ c. touched own c || touched_alone own pending c) (λ c. touched own c || touched pending c) (λ c. some_own (touched own c) (touched pending c)) in
    omega (arith, either, more)
  where
    outside_own : (a b : Bool) → a ≡ true → (b && not a) ≡ false
    outside_own true true e = refl
    outside_own true false e = refl
    outside_own false b e = absurd (cc)

    some_own : (a b : Bool) → (a || (b && not a)) ≡ true → (a || b) ≡ true
    some_own true b e = refl
    some_own false true e = refl
    some_own false false e = e

-- so the two lists together are no more than the stretches of all that the entries touch
pub both_count : (moment : ℕ) (user : List ℕ) (es own pending : List Entry) → has_cuts es own ≡ true → has_cuts es pending ≡ true
    → length (net moment user own) + length (gained moment user own pending) ≤ cut_count es (λ c. touched own c || touched pending c)
both_count moment user es own pending one two =
    let net = net_count moment user es own one in
    let gained = gained_count moment user es own pending one two in
    let all = alone_count es own pending in
    omega (arith, net, gained, all)

-- what only the one list touches is steady
pub IsSteady-alone : (es own pending : List Entry) → has_cuts es own ≡ true → has_cuts es pending ≡ true → IsSteady es (touched_alone own pending)
IsSteady-alone es own pending one two =
    IsSteady-two (λ a b. a && not b) es (touched pending) (touched own) refl (IsSteady-touched es pending two) (IsSteady-touched es own one)

-- and so is what either does
pub IsSteady-either : (es own pending : List Entry) → has_cuts es own ≡ true → has_cuts es pending ≡ true → IsSteady es (λ c. touched own c || touched pending c)
IsSteady-either es own pending one two =
    IsSteady-two (λ a b. a || b) es (touched own) (touched pending) refl (IsSteady-touched es own one) (IsSteady-touched es pending two)
