use Rattle.std.proofs.Common.{◌∙◌, ap, ◌++◌, ◌-◌, ◌≤◌, length, arith, rules}
use Rattle.std.proofs.lemmas.List.{take-replicate}
use Rattle.wm_heap.proofs.Pages.{bytes_counted, count_fits, filled_fits, is_page, length-page_of, slots_of-page_of}
use Rattle.wm_heap.proofs.writing.write_slots.Goals as goal

pub overflow_cast-count : goal.overflow_cast-count
overflow_cast-count c =
    let small = count_fits c.args.slots.now c.requires in
    let len = c.len-count.ensures in
    search rules

pub slice_bounds-zeros-count : goal.slice_bounds-zeros-count
slice_bounds-zeros-count c =
    let start = c.in_ok-page.page.items in
    let counted = c.extend_from_slice.new.self.items in
    let fits = filled_fits c.args.slots.now start counted c.extend_from_slice-2.new.self.items c.len-count.result c.in_ok-page.ensures.items
    (c.in_ok-extend_from_slice.ensures.items ∙ ap (λ bytes. start ++ bytes) c.to_be_bytes.ensures) c.len-count.ensures
    (c.in_ok-extend_from_slice-2.ensures.items ∙ ap (λ bytes. counted ++ bytes) c.as_bytes.ensures.is) c.requires in
    let size = bytes_counted c.extend_from_slice-2.new.self c.len.result c.len.ensures in
    omega arith

pub returns : goal.returns
returns c =
    let start = c.in_ok-page.page.items in
    let counted = c.extend_from_slice.new.self.items in
    let page_is = c.from_vec.ensures
    ∙ is_page c.args.slots.now start counted c.extend_from_slice-2.new.self.items c.extend_from_slice-3.new.self.items _ c.len-count.result c.len.result c.in_ok-page.ensures.items
    (c.in_ok-extend_from_slice.ensures.items ∙ ap (λ bytes. start ++ bytes) c.to_be_bytes.ensures) c.len-count.ensures
    (c.in_ok-extend_from_slice-2.ensures.items ∙ ap (λ bytes. counted ++ bytes) c.as_bytes.ensures.is) (bytes_counted c.extend_from_slice-2.new.self c.len.result c.len.ensures)
    (let room : 4096 - c.len.result ≤ 4096 = omega arith in take-replicate (4096 - c.len.result) 4096 0 room) c.in_ok-extend_from_slice-3.ensures.items in
    record {
      page = page_is;
      size = ap length page_is ∙ length-page_of c.args.slots.now c.requires;
      again = slots_of-page_of c.args.slots.now (count_fits c.args.slots.now c.requires) c.as_bytes.ensures.fits;
    }
