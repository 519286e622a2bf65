-- The one spelling of each record: a byte for its kind, and its fields in order.
use Rattle.std.specs.Prelude.{ℕ, List, ◌∷◌}
use Rattle.wm_spec.specs.declared.record.Record.{Record}
use Rattle.wm_spec.specs.declared.record.Record.TheVariants as records
use Rattle.wm_spec.specs.declared.record.counters.Counters.{Counters}
use Rattle.wm_spec.specs.declared.record.table.Table.{Table}
use Rattle.wm_spec.specs.declared.record.column.TableColumn.{TableColumn}
use Rattle.wm_spec.specs.declared.record.space.Space.{Space}
use Rattle.wm_spec.specs.declared.record.version.Version.{Version}
use Rattle.wm_spec.specs.declared.record.savepoint.Savepoint.{Savepoint}
use Rattle.wm_spec.specs.declared.record.row.RowRecord.{RowRecord}
use Rattle.wm_spec.specs.declared.record.piece.PieceRecord.{PieceRecord}
use Rattle.wm_spec.specs.declared.record.trace.Trace.{Trace}
use Rattle.wm_spec.specs.declared.record.lock.Lock.{Lock}
use Rattle.wm_spec.specs.declared.record.hist.Hist.{Hist}
use Rattle.wm_spec.specs.declared.record.turn.Turn.{Turn}
use Rattle.wm_codec.specs.Format.{Format, ◌▸◌, fields, counted}
use Rattle.wm_codec.specs.Fields.{u16, u32, u64, flag, text, kind, column_kind, freeze_mode, lock_mode, value, cell_range, key_columns}

abbrev pub counters : Format Counters
counters = fields
    (λ c. (c.next_stamp, (c.last_moment, (c.limit, (c.next_version, c.work)))))
    (λ p. record { next_stamp = p.0; last_moment = p.1.0; limit = p.1.1.0; next_version = p.1.1.1.0; work = p.1.1.1.1 })
    (u64 ▸ u64 ▸ u32 ▸ u64 ▸ u64)

abbrev pub column : Format TableColumn
column = fields
    (λ c. (c.name, (c.kind, (c.size, c.not_null))))
    (λ p. record { name = p.0; kind = p.1.0; size = p.1.1.0; not_null = p.1.1.1 })
    (text ▸ column_kind ▸ u16 ▸ flag)

abbrev pub table : Format Table
table = fields
    (λ t. (t.number, (t.name, (t.versioned, (t.valid, (t.history, (t.key_columns, t.columns)))))))
    (λ p. record {
      number = p.0;
      name = p.1.0;
      versioned = p.1.1.0;
      valid = p.1.1.1.0;
      history = p.1.1.1.1.0;
      key_columns = p.1.1.1.1.1.0;
      columns = p.1.1.1.1.1.1;
    })
    (u16 ▸ text ▸ flag ▸ flag ▸ flag ▸ key_columns ▸ counted column)

abbrev pub space : Format Space
space = fields
    (λ s. (
      s.number,
      (
        s.name,
        (
          s.parent,
          (
            s.born,
            (
              s.birth_version,
              (
                s.birth_place,
                (
                  s.base_version,
                  (
                    s.from,
                    (
                      s.log_length,
                      (s.rebases, (s.next_place, (s.next_implicit, (s.freeze, s.writer)))),
                    ),
                  ),
                ),
              ),
            ),
          ),
        ),
      ),
    ))
    (λ p. record {
      number = p.0;
      name = p.1.0;
      parent = p.1.1.0;
      born = p.1.1.1.0;
      birth_version = p.1.1.1.1.0;
      birth_place = p.1.1.1.1.1.0;
      base_version = p.1.1.1.1.1.1.0;
      from = p.1.1.1.1.1.1.1.0;
      log_length = p.1.1.1.1.1.1.1.1.0;
      rebases = p.1.1.1.1.1.1.1.1.1.0;
      next_place = p.1.1.1.1.1.1.1.1.1.1.0;
      next_implicit = p.1.1.1.1.1.1.1.1.1.1.1.0;
      freeze = p.1.1.1.1.1.1.1.1.1.1.1.1.0;
      writer = p.1.1.1.1.1.1.1.1.1.1.1.1.1;
    })
    (u32 ▸ text ▸ u32 ▸ u64 ▸ u64 ▸ u32 ▸ u64 ▸ u64 ▸ u64 ▸ u32 ▸ u32 ▸ u32 ▸ freeze_mode ▸ text)

abbrev pub version : Format Version
version = fields
    (λ v. (v.number, (v.space, v.parent)))
    (λ p. record { number = p.0; space = p.1.0; parent = p.1.1 })
    (u64 ▸ u32 ▸ u64)

abbrev pub savepoint : Format Savepoint
savepoint = fields
    (λ s. (
      s.space,
      (
        s.name,
        (
          s.implicit,
          (s.place, (s.making, (s.moment, (s.version, (s.base_version, (s.from, (s.log_length, s.rebases))))))),
        ),
      ),
    ))
    (λ p. record {
      space = p.0;
      name = p.1.0;
      implicit = p.1.1.0;
      place = p.1.1.1.0;
      making = p.1.1.1.1.0;
      moment = p.1.1.1.1.1.0;
      version = p.1.1.1.1.1.1.0;
      base_version = p.1.1.1.1.1.1.1.0;
      from = p.1.1.1.1.1.1.1.1.0;
      log_length = p.1.1.1.1.1.1.1.1.1.0;
      rebases = p.1.1.1.1.1.1.1.1.1.1;
    })
    (u32 ▸ text ▸ flag ▸ u32 ▸ u64 ▸ u64 ▸ u64 ▸ u64 ▸ u64 ▸ u64 ▸ u32)

abbrev pub row : Format RowRecord
row = fields
    (λ r. (r.stamp, (r.table, r.values)))
    (λ p. record { stamp = p.0; table = p.1.0; values = p.1.1 })
    (u64 ▸ u16 ▸ counted value)

abbrev pub piece : Format PieceRecord
piece = fields
    (λ p. (p.version, (p.cells, (p.stamp, (p.kind, p.gone)))))
    (λ p. record { version = p.0; cells = p.1.0; stamp = p.1.1.0; kind = p.1.1.1.0; gone = p.1.1.1.1 })
    (u64 ▸ cell_range ▸ u64 ▸ kind ▸ flag)

-- of a touch, and of a mark
abbrev pub trace : Format Trace
trace = fields
    (λ t. (t.space, (t.place, (t.cells, t.position))))
    (λ p. record { space = p.0; place = p.1.0; cells = p.1.1.0; position = p.1.1.1 })
    (u32 ▸ u32 ▸ cell_range ▸ u64)

abbrev pub lock : Format Lock
lock = fields
    (λ l. (l.space, (l.place, (l.cells, (l.mode, (l.user, l.making))))))
    (λ p. record {
      space = p.0;
      place = p.1.0;
      cells = p.1.1.0;
      mode = p.1.1.1.0;
      user = p.1.1.1.1.0;
      making = p.1.1.1.1.1;
    })
    (u32 ▸ u32 ▸ cell_range ▸ lock_mode ▸ text ▸ u64)

abbrev pub hist : Format Hist
hist = fields
    (λ h. (h.space, (h.position, (h.cells, (h.stamp, (h.kind, (h.gone, (h.moment, h.user))))))))
    (λ p. record {
      space = p.0;
      position = p.1.0;
      cells = p.1.1.0;
      stamp = p.1.1.1.0;
      kind = p.1.1.1.1.0;
      gone = p.1.1.1.1.1.0;
      moment = p.1.1.1.1.1.1.0;
      user = p.1.1.1.1.1.1.1;
    })
    (u32 ▸ u64 ▸ cell_range ▸ u64 ▸ kind ▸ flag ▸ u64 ▸ text)

abbrev pub turn : Format Turn
turn = fields
    (λ t. (t.space, (t.rebase, (t.log_length, t.rebases))))
    (λ p. record { space = p.0; rebase = p.1.0; log_length = p.1.1.0; rebases = p.1.1.1 })
    (u32 ▸ u32 ▸ u64 ▸ u32)

-- the bytes of a record
unfoldable pub spelling : Record → List ℕ
spelling (records.Counters r) = 1 ∷ counters.spell r
spelling (records.Table r) = 2 ∷ table.spell r
spelling (records.Space r) = 3 ∷ space.spell r
spelling (records.Version r) = 4 ∷ version.spell r
spelling (records.Savepoint r) = 5 ∷ savepoint.spell r
spelling (records.Row r) = 6 ∷ row.spell r
spelling (records.Piece r) = 7 ∷ piece.spell r
spelling (records.Touch r) = 8 ∷ trace.spell r
spelling (records.Lock r) = 9 ∷ lock.spell r
spelling (records.Hist r) = 10 ∷ hist.spell r
spelling (records.Mark r) = 11 ∷ trace.spell r
spelling (records.Turn r) = 12 ∷ turn.spell r

-- what is asked of a record so that it has a spelling: its texts and lists are short enough, no text among its
-- values is empty, none of them is a period, a key has one value, and a table at most one key column
abbrev pub CanSpell : Record → Type 0
CanSpell (records.Counters r) = counters.CanSpell r
CanSpell (records.Table r) = table.CanSpell r
CanSpell (records.Space r) = space.CanSpell r
CanSpell (records.Version r) = version.CanSpell r
CanSpell (records.Savepoint r) = savepoint.CanSpell r
CanSpell (records.Row r) = row.CanSpell r
CanSpell (records.Piece r) = piece.CanSpell r
CanSpell (records.Touch r) = trace.CanSpell r
CanSpell (records.Lock r) = lock.CanSpell r
CanSpell (records.Hist r) = hist.CanSpell r
CanSpell (records.Mark r) = trace.CanSpell r
CanSpell (records.Turn r) = turn.CanSpell r

-- a record that has a spelling: that, and each number fits its bytes
unfoldable pub HasSpelling : Record → Type 0
HasSpelling (records.Counters r) = counters.Fits r
HasSpelling (records.Table r) = table.Fits r
HasSpelling (records.Space r) = space.Fits r
HasSpelling (records.Version r) = version.Fits r
HasSpelling (records.Savepoint r) = savepoint.Fits r
HasSpelling (records.Row r) = row.Fits r
HasSpelling (records.Piece r) = piece.Fits r
HasSpelling (records.Touch r) = trace.Fits r
HasSpelling (records.Lock r) = lock.Fits r
HasSpelling (records.Hist r) = hist.Fits r
HasSpelling (records.Mark r) = trace.Fits r
HasSpelling (records.Turn r) = turn.Fits r
