-- `admit` hands on the first refusal; where none is given the table is opened.
use mathlib.Core.Path.{refl}
use lib.ListN.{length}
use Rattle.definitions.specs.Table.{rule_count}
use Rattle.definitions.specs.Services.{work_too_short, table_length, has_bad_word, table_checks}
use Rattle.lists.specs.Decisions.{met, later, refused_met, done_met}
use Rattle.opening.specs.Opening.{turned_down}
use Rattle.opening.proofs.Shaping.{length_passed, passed_shaped}
use Rattle.opening.proofs.Settling.{settled_admitted}
use Rattle.opening.proofs.admit.Goals as goal

pub returns-in_default : goal.returns-in_default
unfolding table_checks
returns-in_default c =
    let a = c.args in
    let n = length a.work.now in
    let (q, e) = refused_met (work_too_short n) n c.work_fits-room.ensures c.in_default.is in
    turned_down (work_too_short n) (met q) refl e

pub returns-in_default-size : goal.returns-in_default-size
unfolding table_checks
returns-in_default-size c =
    let a = c.args in
    let n = length a.work.now in
    let k = length a.table.now in
    let (room, _) = done_met (work_too_short n) n c.work_fits-room.ensures c.in-Ok.is in
    let (q, e) = refused_met (table_length k) k c.length_fits-size.ensures c.in_default-size.is in
    turned_down (table_length k) (later (work_too_short n) room (met q)) refl e

pub words_fit-words-requires : goal.words_fit-words-requires
words_fit-words-requires c =
    let k = length c.args.table.now in
    let p = length_passed k (done_met (table_length k) k c.length_fits-size.ensures c.in-Ok-size.is).0 in
    (p.1, p.2)

pub returns-in_default-words : goal.returns-in_default-words
unfolding table_checks
returns-in_default-words c =
    let a = c.args in
    let n = length a.work.now in
    let t = a.table.now in
    let (room, _) = done_met (work_too_short n) n c.work_fits-room.ensures c.in-Ok.is in
    let (size, _) = done_met (table_length (length t)) (length t) c.length_fits-size.ensures c.in-Ok-size.is in
    let (q, e) = refused_met (has_bad_word t) (rule_count t) c.words_fit-words.ensures c.in_default-words.is in
    turned_down (has_bad_word t) (later (work_too_short n) room (later (table_length (length t)) size (met q))) refl e

pub settle-requires : goal.settle-requires
settle-requires c =
    let a = c.args in
    let n = length a.work.now in
    let t = a.table.now in
    passed_shaped t a.work.now (done_met (work_too_short n) n c.work_fits-room.ensures c.in-Ok.is).0
    (done_met (table_length (length t)) (length t) c.length_fits-size.ensures c.in-Ok-size.is).0
    (done_met (has_bad_word t) (rule_count t) c.words_fit-words.ensures c.in-Ok-words.is).0

pub returns : goal.returns
returns c =
    let a = c.args in
    let n = length a.work.now in
    let t = a.table.now in
    settled_admitted a.order t a.work.now c.settle.new.work c.settle.result
    (done_met (work_too_short n) n c.work_fits-room.ensures c.in-Ok.is).0
    (done_met (table_length (length t)) (length t) c.length_fits-size.ensures c.in-Ok-size.is).0
    (done_met (has_bad_word t) (rule_count t) c.words_fit-words.ensures c.in-Ok-words.is).0
    c.settle.ensures
