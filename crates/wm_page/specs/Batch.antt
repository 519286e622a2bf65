-- Pages by number, each with its bytes.
use Rattle.std.specs.Prelude.{ℕ, List, [], ◌∷◌}
use Rattle.wm_page.specs.declared.write.PageWrite.{PageWrite}

-- the pages with their bytes, in order
abbrev pub entries : List PageWrite → List (ℕ × List ℕ)
entries [] = []
entries (w ∷ ws) = (w.page, w.bytes) ∷ entries ws
