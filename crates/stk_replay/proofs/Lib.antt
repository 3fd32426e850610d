mod Complete
mod Limited
