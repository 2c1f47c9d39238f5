mod Keys
mod RowLaws
mod ValueLaws
