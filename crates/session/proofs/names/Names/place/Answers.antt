use Rattle.session.proofs.NameLaws.{given_found, there_found, place_found}
use Rattle.session.proofs.names.Names.place.Goals as goal

pub returns : goal.returns
returns c =
    let names = c.self.inside.given.items in
    let position = rw c.deref.ensures.value at c.binary_search.ensures.position in
    rw (← c.self.view_is) (record {
      given = given_found names c.self.invariant c.args.name c.binary_search.result position;
      there = there_found names c.self.invariant c.args.name c.binary_search.result position;
      goes = place_found names c.self.invariant c.args.name c.binary_search.result position;
    })
