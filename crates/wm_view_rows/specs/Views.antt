-- What the name of a source says: what is shown, and of which table.
use Rattle.std.specs.Prelude.{ℕ, ◌-◌, Bool, true, false, nat_eq, if◌then◌else◌, List, length, take, codes}
use Rattle.std.specs.List.{ends_with}
use Rattle.wm_view_rows.specs.declared.view.View.{View}
use Rattle.wm_view_rows.specs.declared.view.View.TheVariants.{Rows, Conflicts, Differences, History, Locks}

-- by the end of the name; no table has such a name
abbrev pub view_named : List ℕ → View
view_named name =
    if ends_with nat_eq name (codes "_CONF") then Conflicts else
    (if ends_with nat_eq name (codes "_DIFF") then Differences else
    (if ends_with nat_eq name (codes "_HIST") then History else
    (if ends_with nat_eq name (codes "_LOCK") then Locks else Rows)))

-- the name of the table: that of a view without its end
abbrev pub without_end : View → List ℕ → List ℕ
without_end Rows name = name
without_end Conflicts name = take (length name - 5) name
without_end Differences name = take (length name - 5) name
without_end History name = take (length name - 5) name
without_end Locks name = take (length name - 5) name

abbrev pub table_sought : List ℕ → List ℕ
table_sought name = without_end (view_named name) name

abbrev pub is_conflicts : View → Bool
is_conflicts Conflicts = true
is_conflicts Rows = false
is_conflicts Differences = false
is_conflicts History = false
is_conflicts Locks = false

abbrev pub is_history : View → Bool
is_history History = true
is_history Rows = false
is_history Conflicts = false
is_history Differences = false
is_history Locks = false
