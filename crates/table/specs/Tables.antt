-- The routes of a table. Assumes nothing.
use Rattle.table.specs.declared.table.Table.{Table}
use Rattle.table.specs.Routes.{Routes}
use Rattle.table.specs.Stored.{routes_of}

abbrev pub routes_in : Table → Routes
routes_in t = routes_of t.routes
