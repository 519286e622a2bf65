-- What is drawn over the pieces that new ones touch.
use Rattle.std.proofs.Common.{◌≡◌, ℕ, Bool, true, false, not, ◌&&◌, ◌||◌, List, [], ◌∷◌, ◌++◌, refl, sym, ap, ◌∙◌}
use Rattle.std.proofs.lemmas.Bool.{and_parts, not-true, true≢false}
use Rattle.std.specs.List.{filter, flat_map, list_all, list_any}
use Rattle.std.specs.Option.{option_or}
use Rattle.wm_base.specs.declared.value.Value.{Value}
use Rattle.wm_graph.specs.Rules.{collide, differ}
use Rattle.wm_base.proofs.Plain.{option_or_assoc}
use Rattle.wm_spec.specs.declared.record.piece.PieceRecord.{PieceRecord}
use Rattle.wm_state.specs.Batches.{is_in, is_out}
use Rattle.wm_state.specs.Drawing.{AreDrawn, has_moments, is_clear, left_by, stored_last, touched}
use Rattle.wm_state.specs.Standing.{stored_at}
use Rattle.wm_state.proofs.Appending.{all_append, all_kept, differ_append}
use Rattle.wm_written.proofs.Drawing.{all_apart, drawn-more, drawn-over, drawn-same}
use Rattle.wm_written.proofs.DrawingApart.{part_apart_all}
use Rattle.wm_state.proofs.DrawingEnds.{ends-more, ends-of, has_both, more-behind, more-both, more-front}
use Rattle.wm_state.proofs.Laying.{stored-append}
use Rattle.wm_state.proofs.Tests.{differ_filter}
use Rattle.wm_written.proofs.Touched.{AreApart, are-turned, clear-append, clear-apart, either-held, either-pass, filters-apart, met-place, touched-all}

-- ---- pieces beside those that are drawn

-- what collides neither with the old ones nor with the new ones collides with nothing that is drawn
drawn-apart : (news old drawn more : List PieceRecord) → AreDrawn news old drawn → AreApart news more → AreApart old more → AreApart drawn more
drawn-apart news old drawn more so news_apart old_apart =
    so.pass (λ x. not (list_any (collide x) more)) (λ x from till apart after some before. ap not (part_apart_all x from till after before more (not-true (list_any (collide x) more) apart))) old_apart news_apart

-- so it may stand beside it
drawn-beside : (news old drawn more : List PieceRecord) → AreDrawn news old drawn → AreApart news more → AreApart old more → differ collide more ≡ true → AreDrawn news (old ++ more) (drawn ++ more)
drawn-beside news old drawn more so news_apart old_apart apart = record {
  held = λ w c.
      stored-append drawn more w c
      ∙ ap (λ o. option_or o (stored_at more w c)) (so.held w c)
      ∙ option_or_assoc (stored_last news w c) (stored_at old w c) (stored_at more w c)
      ∙ ap (option_or (stored_last news w c)) (sym (stored-append old more w c));
  differ = differ_append collide drawn more so.differ apart (drawn-apart news old drawn more so news_apart old_apart);
  pass = λ test parts olds passed.
      let o = all_apart test old more olds in all_append test drawn more (so.pass test parts o.0 passed) o.1;
  ends =
      let all : List PieceRecord = (old ++ more) ++ news in
      all_append (has_both all) drawn more
      (ends-more (old ++ news) all drawn (more-both old news all (λ P e. more-front (old ++ more) news P (more-front old more P e)) (more-behind (old ++ more) news)) so.ends)
      (ends-of more all (λ P e. more-front (old ++ more) news P (more-behind old more P e)));
}

-- no piece that is clear of the new ones collides with what is drawn for the others
pub kept-apart : (news old drawn : List PieceRecord) → differ collide old ≡ true → AreDrawn news (touched news old) drawn → AreApart (filter (is_clear news) old) drawn
kept-apart news old drawn apart so =
    are-turned drawn (filter (is_clear news) old)
    (drawn-apart news (touched news old) drawn (filter (is_clear news) old) so (clear-apart news (filter (is_clear news) old) (all_kept (is_clear news) (is_clear news) (λ y is. is) old))
    (filters-apart (λ y. not (is_clear news y)) (is_clear news) (λ y reached is. true≢false (sym is ∙ not-true (is_clear news y) reached)) old apart))

-- ---- one new piece more

-- the new piece is the first that touches this one
abbrev pub is_met_by : List PieceRecord → PieceRecord → PieceRecord → Bool
is_met_by news new y = is_clear news y && collide new y

-- a piece is touched by new ones and one more where it is so by these, or by it first
pub touched-more : (news : List PieceRecord) (new y : PieceRecord) → not (is_clear (news ++ new ∷ []) y) ≡ (not (is_clear news y) || is_met_by news new y)
touched-more news new y = ap not (clear-append news (new ∷ []) y) ∙ by_tests (is_clear news y) (collide new y)
  where
    by_tests : (a b : Bool) → not (a && (not b && true)) ≡ (not a || (a && b))
    by_tests true true = refl
    by_tests true false = refl
    by_tests false b = refl

-- it comes over what is drawn and those that it is the first to touch
pub drawn-touched : (news : List PieceRecord) (new : PieceRecord) (xs drawn : List PieceRecord) → differ collide xs ≡ true → has_moments new ≡ true → AreDrawn news (touched news xs) drawn
    → AreDrawn (news ++ new ∷ []) (touched (news ++ new ∷ []) xs) (new ∷ flat_map (left_by new) (drawn ++ filter (is_met_by news new) xs))
drawn-touched news new xs drawn apart lasts so =
    drawn-same (news ++ new ∷ []) (touched news xs ++ met) (touched (news ++ new ∷ []) xs) (new ∷ flat_map (left_by new) (drawn ++ met))
    (either-held (λ y. not (is_clear news y)) (is_met_by news new) (λ y. not (is_clear (news ++ new ∷ []) y)) (touched-more news new) xs apart)
    (either-pass (λ y. not (is_clear news y)) (is_met_by news new) (λ y. not (is_clear (news ++ new ∷ []) y)) (touched-more news new) xs)
    (drawn-over news (touched news xs ++ met) (drawn ++ met) new
    (drawn-beside news (touched news xs) drawn met so
    (clear-apart news met (all_kept (is_clear news) (is_met_by news new) (λ y is. (and_parts (is_clear news y) (collide new y) is).0) xs))
    (filters-apart (λ y. not (is_clear news y)) (is_met_by news new) (λ y reached is. true≢false (sym (and_parts (is_clear news y) (collide new y) is).0 ∙ not-true (is_clear news y) reached)) xs apart)
    (differ_filter collide (is_met_by news new) xs apart)) lasts)
  where
    met : List PieceRecord
    met = filter (is_met_by news new) xs

-- ---- new pieces of one key more

-- a piece is touched by new ones where it is so by the first of them or by the others
pub touched-either : (news more : List PieceRecord) (y : PieceRecord) → not (is_clear (news ++ more) y) ≡ (not (is_clear news y) || not (is_clear more y))
touched-either news more y = ap not (clear-append news more y) ∙ by_tests (is_clear news y) (is_clear more y)
  where
    by_tests : (a b : Bool) → not (a && b) ≡ (not a || not b)
    by_tests true b = refl
    by_tests false b = refl

-- what is drawn for some new pieces, and what is drawn for those of another key, is drawn for all of them
pub drawn-keys : (version table : ℕ) (key : List Value) (before mine xs ds es : List PieceRecord) → differ collide xs ≡ true → AreDrawn before (touched before xs) ds → AreDrawn mine (touched mine xs) es
    → list_all (is_out version table key) before ≡ true → list_all (is_in version table key) mine ≡ true → AreDrawn (before ++ mine) (touched (before ++ mine) xs) (ds ++ es)
drawn-keys version table key before mine xs ds es apart front behind news_out news_in =
    drawn-same (before ++ mine) (touched before xs ++ touched mine xs) (touched (before ++ mine) xs) (ds ++ es)
    (either-held (λ y. not (is_clear before y)) (λ y. not (is_clear mine y)) (λ y. not (is_clear (before ++ mine) y)) (touched-either before mine) xs apart)
    (either-pass (λ y. not (is_clear before y)) (λ y. not (is_clear mine y)) (λ y. not (is_clear (before ++ mine) y)) (touched-either before mine) xs)
    (drawn-more version table key before (touched before xs) ds mine (touched mine xs) es front behind news_out
    (touched-all (is_out version table key) (λ n y hit outside. ap not (met-place n y hit version table key) ∙ outside) before news_out xs) news_in
    (touched-all (is_in version table key) (λ n y hit inside. met-place n y hit version table key ∙ inside) mine news_in xs))
