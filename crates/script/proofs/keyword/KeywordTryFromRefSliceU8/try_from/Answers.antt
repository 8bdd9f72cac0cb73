use Rattle.std.proofs.Common.{codes, ap, arith}
use Rattle.script.specs.Keywords.{keyword_of}
use Rattle.script.proofs.Letters.{is_spelled}
use Rattle.script.proofs.keyword.KeywordTryFromRefSliceU8.try_from.Goals as goal

pub returns-in-resume : goal.returns-in-resume
returns-in-resume c = ap keyword_of (is_spelled c.args.word.now (codes "resume") (omega arith) (omega arith, (omega arith, (omega arith, (omega arith, (omega arith, (omega arith, tt)))))))

pub returns-in-report : goal.returns-in-report
returns-in-report c = ap keyword_of (is_spelled c.args.word.now (codes "report") (omega arith) (omega arith, (omega arith, (omega arith, (omega arith, (omega arith, (omega arith, tt)))))))

pub returns-in-request : goal.returns-in-request
returns-in-request c = ap keyword_of (is_spelled c.args.word.now (codes "request") (omega arith) (omega arith, (omega arith, (omega arith, (omega arith, (omega arith, (omega arith, (omega arith, tt))))))))

pub returns-in-116 : goal.returns-in-116
returns-in-116 c = ap keyword_of (is_spelled c.args.word.now (codes "take-up") (omega arith) (omega arith, (omega arith, (omega arith, (omega arith, (omega arith, (omega arith, (omega arith, tt))))))))

pub returns-in-registers : goal.returns-in-registers
returns-in-registers c = ap keyword_of (is_spelled c.args.word.now (codes "registers") (omega arith) (omega arith, (omega arith, (omega arith, (omega arith, (omega arith, (omega arith, (omega arith, (omega arith, (omega arith, tt))))))))))
