-- Histories that are spelled the same are the same.
use Rattle.std.proofs.Common.{◌≡◌, ℕ, List, [], ◌∷◌, ◌++◌, length, refl, ap, arith}
use Rattle.wm_station.specs.History.{History, Begin, Wrote, Synced, Said}
use Rattle.wm_store.specs.Past.{past_of}

-- two lists whose fronts are as long
front_is : (xs ys us vs : List ℕ) → length xs ≡ length us → xs ++ ys ≡ us ++ vs → (xs ≡ us) × (ys ≡ vs)
front_is [] ys [] vs len same = (refl, same)
front_is [] ys (u ∷ us) vs len same = absurd (omega arith)
front_is (x ∷ xs) ys [] vs len same = absurd (omega arith)
front_is (x ∷ xs) ys (u ∷ us) vs len same =
    let head : x ≡ u = cc in
    let rest : xs ++ ys ≡ us ++ vs = cc in
    let t = front_is xs ys us vs (omega arith) rest in
    let tail = t.0 in
    (cc, t.1)

pub past_injective : (h k : History) → past_of h ≡ past_of k → h ≡ k
unfolding past_of
past_injective (Begin a) (Begin b) e = let same : a ≡ b = cc in ap (λ i. Begin i) same
past_injective (Wrote h at n a) (Wrote k at' n' b) e =
    let place : at ≡ at' = cc in
    let size : n ≡ n' = cc in
    let len : length a ≡ length b = cc in
    let rest : a ++ past_of h ≡ b ++ past_of k = cc in
    let t = front_is a (past_of h) b (past_of k) len rest in
    let image = t.0 in
    let before = past_injective h k t.1 in
    cc
past_injective (Synced h) (Synced k) e = let before = past_injective h k (let rest : past_of h ≡ past_of k = cc in rest) in ap (λ i. Synced i) before
past_injective (Said h a n) (Said k b n') e =
    let size : n ≡ n' = cc in
    let len : length a ≡ length b = cc in
    let rest : a ++ past_of h ≡ b ++ past_of k = cc in
    let t = front_is a (past_of h) b (past_of k) len rest in
    let piece = t.0 in
    let before = past_injective h k t.1 in
    cc
past_injective (Begin a) (Wrote k at n b) e = absurd cc
past_injective (Begin a) (Synced k) e = absurd cc
past_injective (Begin a) (Said k b n) e = absurd cc
past_injective (Wrote h at n a) (Begin b) e = absurd cc
past_injective (Wrote h at n a) (Synced k) e = absurd cc
past_injective (Wrote h at n a) (Said k b n') e = absurd cc
past_injective (Synced h) (Begin b) e = absurd cc
past_injective (Synced h) (Wrote k at n b) e = absurd cc
past_injective (Synced h) (Said k b n) e = absurd cc
past_injective (Said h a n) (Begin b) e = absurd cc
past_injective (Said h a n) (Wrote k at n' b) e = absurd cc
past_injective (Said h a n) (Synced k) e = absurd cc
