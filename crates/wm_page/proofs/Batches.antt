-- The entries of pages that are written.
use Rattle.std.proofs.Common.{◌≡◌, ℕ, List, [], ◌∷◌, ◌++◌, length, refl, ap, arith}
use Rattle.wm_page.specs.Batch.{entries}
use Rattle.wm_page.specs.declared.write.PageWrite.{PageWrite}

pub length-entries : (ws : List PageWrite) → length (entries ws) ≡ length ws
length-entries [] = refl
length-entries (w ∷ ws) = omega (arith, length-entries ws)

pub entries-append : (ws vs : List PageWrite) → entries (ws ++ vs) ≡ entries ws ++ entries vs
entries-append [] vs = refl
entries-append (w ∷ ws) vs = ap (λ (l : List (ℕ × List ℕ)). (w.page, w.bytes) ∷ l) (entries-append ws vs)
