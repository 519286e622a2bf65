use Rattle.std.proofs.Common.{◌≡◌, ℕ, ◌+◌, ◌-◌, ◌*◌, ◌≤◌, List, [], ◌++◌, length, replicate, sym, ◌∙◌, ap, subst, arith}
use Rattle.wm_page.proofs.Batches.{length-entries}
use Rattle.wm_page.specs.Batch.{entries}
use Rattle.wm_page.specs.declared.write.PageWrite.{PageWrite}
use Rattle.wm_journal.specs.Disk.{directory_pages}
use Rattle.wm_journal.specs.Writes.{numbers_of, images_of, journal_bytes}
use Rattle.wm_journal.proofs.ReadBack.{length-numbers_of}
use Rattle.wm_journal.proofs.batch.journal_bytes.Goals as goal

-- the numbers, filled up to whole pages, and the images
bytes_made : (es : List (ℕ × List ℕ)) (n size : ℕ) (numbers filled whole : List ℕ) → n ≡ length es → numbers ≡ [] ++ numbers_of es → size ≡ length numbers → filled ≡ numbers ++ replicate (directory_pages n * 4096 - size) 0 → whole ≡ filled ++ images_of es → whole ≡ journal_bytes es
unfolding journal_bytes
bytes_made es n size numbers filled whole count first long second third =
    let eight : size ≡ length es * 8 = omega (arith, ap length first, length-numbers_of es) in
    let amount : directory_pages n * 4096 - size ≡ directory_pages (length es) * 4096 - length es * 8 = omega arith in
    third
    ∙ ap (λ (l : List ℕ). l ++ images_of es)
    (second
    ∙ ap (λ (l : List ℕ). l ++ replicate (directory_pages n * 4096 - size) 0) first
    ∙ ap (λ (k : ℕ). numbers_of es ++ replicate k 0) amount)

-- eight bytes for each page are no more than their pages have, and leave less than one free
numbers_size : (es : List (ℕ × List ℕ)) (n size : ℕ) (numbers : List ℕ) → n ≡ length es → numbers ≡ numbers_of es → size ≡ length numbers → (size ≤ directory_pages n * 4096) × (directory_pages n * 4096 ≤ size + 4096)
numbers_size es n size numbers count are long =
    let eight : size ≡ n * 8 = omega (arith, ap length are, length-numbers_of es) in
    (omega arith, omega arith)

pub put_zeros-requires : goal.put_zeros-requires
put_zeros-requires c =
    let pages : List PageWrite = c.args.pages.now in
    let pages_taken : c.div_ceil-numbers.result ≡ directory_pages (length pages) = omega (arith, c.div_ceil-numbers.ensures) in
    let numbers : List ℕ = c.put_numbers.new.bytes.items in
    let sizes = numbers_size (entries pages) (length pages) c.put_numbers.new.bytes.len numbers (sym (length-entries pages)) (c.in_ok-put_numbers.ensures ∙ ap (λ (l : List ℕ). l ++ numbers_of (entries pages)) c.in_ok-bytes.ensures.items) c.put_numbers.new.bytes.ok.0 in
    record {
      short = subst (λ (k : ℕ). c.put_numbers.new.bytes.len ≤ k * 4096) (sym pages_taken) sizes.0;
      near = subst (λ (k : ℕ). k * 4096 ≤ c.put_numbers.new.bytes.len + 4096) (sym pages_taken) sizes.1;
    }

pub returns : goal.returns
returns c =
    let pages : List PageWrite = c.args.pages.now in
    let n = length pages in
    let size = c.put_numbers.new.bytes.len in
    let count : n ≡ length (entries pages) = sym (length-entries pages) in
    let numbers : c.put_numbers.new.bytes.items ≡ [] ++ numbers_of (entries pages) = c.in_ok-put_numbers.ensures ∙ ap (λ (l : List ℕ). l ++ numbers_of (entries pages)) c.in_ok-bytes.ensures.items in
    let pages_taken : c.div_ceil-numbers.result ≡ directory_pages n = omega (arith, c.div_ceil-numbers.ensures) in
    let numbers_items : List ℕ = c.put_numbers.new.bytes.items in
    let long : size ≡ length numbers_items = c.put_numbers.new.bytes.ok.0 in
    let filled : c.put_zeros.new.bytes.items ≡ numbers_items ++ replicate (directory_pages n * 4096 - size) 0 =
    subst (λ (k : ℕ). c.put_zeros.new.bytes.items ≡ numbers_items ++ replicate (k * 4096 - size) 0) pages_taken c.in_ok-put_zeros.ensures in
    bytes_made (entries pages) n size numbers_items c.put_zeros.new.bytes.items c.put_images.new.bytes.items count numbers long filled c.in_ok-put_images.ensures
