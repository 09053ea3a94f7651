use Rattle.std.proofs.Common.{sym, arith, ap, length}
use Rattle.query_reader.proofs.FittingLaws.{accepted, few_variables, refused}
use Rattle.query_reader.proofs.reading.checked_query.Goals as goal

pub returns-in-Some : goal.returns-in-Some
returns-in-Some c =
    sym (refused c.args.catalogue.now c.in_ok-directory.directory c.args.syntax.now c.in_ok-pieces.pieces c.in_ok-broken.field-0 c.in-Some.broken
    c.in_ok-directory.ensures c.in_ok-pieces.ensures c.in_ok-broken.ensures c.in-Some.is)

pub query_of_pieces-requires : goal.query_of_pieces-requires
query_of_pieces-requires c = record {
  relations = omega (arith, c.requires, ap length c.in_ok-directory.ensures);
  few = few_variables c.in_ok-directory.directory c.in_ok-pieces.pieces c.in_ok-broken.field-0 c.in_ok-broken.ensures c.in-None.is;
}

pub returns : goal.returns
returns c =
    sym (accepted c.args.catalogue.now c.in_ok-directory.directory c.args.syntax.now c.in_ok-pieces.pieces c.in_ok-broken.field-0 c.in_ok-query_of_pieces-in-None.field-0
    c.in_ok-directory.ensures c.in_ok-pieces.ensures c.in_ok-broken.ensures c.in-None.is c.in_ok-query_of_pieces-in-None.ensures)
