-- The rows of accounts so far.
use Rattle.sgt_model.specs.Contents.{Contents}
use Rattle.sgt_model.specs.Databases.{contents_of}
use Rattle.sgt_smallbank.specs.Joins.{joined}
use Rattle.sgt_smallbank.specs.declared.account_rows.AccountRows.{AccountRows}

-- the contents of all three tables
abbrev pub rows_in : AccountRows → Contents
rows_in r = joined (contents_of r.customers) (contents_of r.savings) (contents_of r.checkings)
