use Rattle.wm_parser.proofs.Answered.{answered, refused}
use Rattle.wm_parser.proofs.Ending.{judged_is, refused_is}
use Rattle.wm_parser.proofs.Tokens.{symbols_are}
use Rattle.wm_parser.proofs.parsing.parse.Goals as goal

pub returns-in-Ok-line_in : goal.returns-in-Ok-line_in
returns-in-Ok-line_in c =
    let all = judged_is c.args.line.now c.in-Ok-line_in.tree c.in-Ok.bad c.in_range.result c.in-Ok-line_in.ensures c.in-Ok.ensures c.in_range.ensures in
    let value = answered c.args.line.now c.in-Ok-line_in.tree c.in-Ok.bad c.in_range.result c.in-Ok-line_in.ensures c.in-Ok.ensures c.in_range.ensures in
    record { tokens = symbols_are c.args.line.now; found = all.0; complete = all.1; fault = all.2; syntax = all.3; literal = all.4; is = value }

pub returns-in-Err-Syntax : goal.returns-in-Err-Syntax
returns-in-Err-Syntax c =
    let all = refused_is c.args.line.now c.in-Err-Syntax.left c.column_of-column.result (rw c.in-Err-Syntax.field-0-is at c.in-Err-Syntax.ensures) (rw c.in-Err-Syntax.field-0-is at c.column_of-column.ensures) in
    let value = refused c.args.line.now c.in-Err-Syntax.left c.column_of-column.result (rw c.in-Err-Syntax.field-0-is at c.in-Err-Syntax.ensures) (rw c.in-Err-Syntax.field-0-is at c.column_of-column.ensures) in
    record { tokens = symbols_are c.args.line.now; found = all.0; complete = all.1; fault = all.2; syntax = all.3; literal = all.4; is = value }
